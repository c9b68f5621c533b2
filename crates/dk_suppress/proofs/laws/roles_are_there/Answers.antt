use Rattle.dk_suppress.proofs.Facts.{roles_there}
use Rattle.dk_suppress.proofs.laws.roles_are_there.Goals as goal

pub returns : goal.returns
returns c = roles_there
