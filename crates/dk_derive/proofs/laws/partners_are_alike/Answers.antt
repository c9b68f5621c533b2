use Rattle.dk_derive.proofs.Alike.{partners_are_alike}
use Rattle.dk_derive.proofs.laws.partners_are_alike.Goals as goal

pub returns : goal.returns
returns c = partners_are_alike
