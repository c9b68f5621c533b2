use Rattle.dk_derive.proofs.Ranges.{values_are_within}
use Rattle.dk_derive.proofs.laws.values_are_within.Goals as goal

pub returns : goal.returns
returns c = values_are_within
