use Rattle.dk_derive.proofs.Deriving.{are_with_derived}
use Rattle.dk_derive.proofs.laws.derive_gives_derived.Goals as goal

pub returns : goal.returns
returns c = are_with_derived
