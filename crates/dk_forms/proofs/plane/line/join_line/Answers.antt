use Rattle.std.proofs.Common.{sym, subst}
use Rattle.dk_forms.specs.Plane.Line.{IsLineState}
use Rattle.dk_forms.proofs.LineLaws.{line_laws}
use Rattle.dk_forms.proofs.plane.line.join_line.Goals as goal

pub returns-clause-formed : goal.returns-clause-formed
returns-clause-formed c = subst IsLineState (sym c.joined_line.ensures) (line_laws.closed c.args.left c.args.right.now c.requires.left c.requires.right)
