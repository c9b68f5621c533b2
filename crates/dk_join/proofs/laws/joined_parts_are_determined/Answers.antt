use Rattle.dk_join.proofs.Determined.{joined_parts_are_determined}
use Rattle.dk_join.proofs.laws.joined_parts_are_determined.Goals as goal

pub returns : goal.returns
returns c = joined_parts_are_determined
