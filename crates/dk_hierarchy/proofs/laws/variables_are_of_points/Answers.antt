use Rattle.dk_hierarchy.proofs.OfPoint.{of_point}
use Rattle.dk_hierarchy.proofs.laws.variables_are_of_points.Goals as goal

pub returns : goal.returns
returns c = of_point
