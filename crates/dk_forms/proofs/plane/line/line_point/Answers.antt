use Rattle.std.proofs.Common.{sym, subst, [], ◌∷◌}
use Rattle.dk_arith.proofs.Registers.{kept64}
use Rattle.dk_forms.specs.Plane.Line.{IsLineState}
use Rattle.dk_forms.proofs.LineLaws.{line_summary}
use Rattle.dk_forms.proofs.plane.line.line_point.Goals as goal

pub returns-clause-formed : goal.returns-clause-formed
returns-clause-formed c = subst IsLineState (sym c.state_of_point.ensures) (line_summary.proper ((kept64 c.args.x, kept64 c.args.y) ∷ []))
