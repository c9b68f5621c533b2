use Rattle.std.proofs.Common.{sym, subst}
use Rattle.dk_forms.specs.Plane.{IsPlaneState}
use Rattle.dk_forms.proofs.PlaneLaws.{plane_laws}
use Rattle.dk_forms.proofs.plane.join_plane.Goals as goal

pub returns-clause-formed : goal.returns-clause-formed
returns-clause-formed c = subst IsPlaneState (sym c.joined_plane.ensures) (plane_laws.closed c.args.left c.args.right.now c.requires.left c.requires.right)
