use Rattle.dk_suppress.proofs.Usable.{premises_usable}
use Rattle.dk_suppress.proofs.laws.premises_are_usable.Goals as goal

pub returns : goal.returns
returns c = premises_usable
