use Rattle.dk_suppress.proofs.Facts.{conclusions_plain}
use Rattle.dk_suppress.proofs.laws.conclusions_are_plain.Goals as goal

pub returns : goal.returns
returns c = conclusions_plain
