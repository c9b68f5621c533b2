use Rattle.dk_join.proofs.Exact.{joined_parts_are_exact}
use Rattle.dk_join.proofs.laws.joined_parts_are_exact.Goals as goal

pub returns : goal.returns
returns c = joined_parts_are_exact
