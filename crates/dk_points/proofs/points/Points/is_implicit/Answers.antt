use Rattle.std.proofs.Common.{refl}
use Rattle.dk_points.proofs.points.Points.is_implicit.Goals as goal

pub returns : goal.returns
returns c = rw (c.place.ensures.point) refl
