use Rattle.dk_points.proofs.SameValues.{same-is-equal}
use Rattle.dk_points.proofs.laws.same_is_equal.Goals as goal

pub returns : goal.returns
returns c = same-is-equal
