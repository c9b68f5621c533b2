use Rattle.std.proofs.Common.{sym, subst, [], ◌∷◌}
use Rattle.dk_arith.proofs.Registers.{kept64}
use Rattle.dk_forms.specs.Plane.{IsPlaneState}
use Rattle.dk_forms.proofs.PlaneLaws.{plane_summary}
use Rattle.dk_forms.proofs.plane.plane_point.Goals as goal

pub returns-clause-formed : goal.returns-clause-formed
returns-clause-formed c = subst IsPlaneState (sym c.state_of_point.ensures) (plane_summary.proper ((kept64 c.args.x, kept64 c.args.y, kept64 c.args.z) ∷ []))
