use Rattle.std.proofs.Common.{refl}
use Rattle.dk_points.proofs.Keeping.{kept-nothing}
use Rattle.dk_points.specs.Kept.{points_of_places}
use Rattle.dk_points.proofs.points.Points.new.Goals as goal

pub invariant_of-result : goal.invariant_of-result
invariant_of-result c = kept-nothing c.in_ok-graph.graph c.new-2.result c.in_ok-graph.ensures c.new-2.ensures

pub returns : goal.returns
unfolding points_of_places
returns c = rw (c.new-2.ensures) refl
