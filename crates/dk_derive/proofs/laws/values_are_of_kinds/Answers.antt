use Rattle.dk_derive.proofs.Typed.{values_of_kinds}
use Rattle.dk_derive.proofs.laws.values_are_of_kinds.Goals as goal

pub returns : goal.returns
returns c = values_of_kinds
