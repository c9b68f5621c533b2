use Rattle.std.proofs.Common.{◌∙◌, None, ap, sym, subst}
use Rattle.dk_decl.specs.Outcomes.{AnswerAgrees}
use Rattle.dk_graph.specs.Names.{place_of}
use Rattle.dk_points.proofs.Declarations.{known-at}
use Rattle.dk_points.specs.Declaring.{at_line}
use Rattle.dk_points.specs.Table.{names}
use Rattle.dk_points.proofs.points.Points.declare.Goals as goal

pub returns-in-None : goal.returns-in-None
returns-in-None c =
    let none = ap (place_of (names c.args.self)) (sym c.as_slice.ensures) ∙ sym c.in-None.ensures.place in
    subst (λ said. AnswerAgrees c.declare_new.result (at_line c.args.line said)) (sym (known-at c.args.self c.args.decl None none)) c.declare_new.ensures
