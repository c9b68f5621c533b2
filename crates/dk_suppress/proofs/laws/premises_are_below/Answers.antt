use Rattle.dk_suppress.proofs.Facts.{premises_below}
use Rattle.dk_suppress.proofs.laws.premises_are_below.Goals as goal

pub returns : goal.returns
returns c = premises_below
