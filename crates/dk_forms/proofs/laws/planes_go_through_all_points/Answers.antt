use Rattle.dk_forms.proofs.Geometry.{broken_points_have_no_plane, planes_have_all_points, points_have_one_plane}
use Rattle.dk_forms.proofs.laws.planes_go_through_all_points.Goals as goal

pub returns-clause-all : goal.returns-clause-all
returns-clause-all c = planes_have_all_points

pub returns-clause-one : goal.returns-clause-one
returns-clause-one c = points_have_one_plane

pub returns-clause-none : goal.returns-clause-none
returns-clause-none c = broken_points_have_no_plane
