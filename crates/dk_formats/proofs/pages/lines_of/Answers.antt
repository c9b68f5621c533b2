use Rattle.std.proofs.Common.{◌≡◌, ◌∙◌, [], ap, subst, ℕ, List, Option, IfOk}
use Rattle.std.specs.Option.{option_map_or}
use Rattle.dk_base.specs.declared.kinds.VarInfo.{VarInfo}
use Rattle.dk_derive.specs.Laws.{all_vars_of}
use Rattle.dk_graph.specs.Names.{place_of}
use Rattle.dk_points.specs.Table.{names}
use Rattle.dk_formats.specs.Saying.{vars_under}
use Rattle.dk_formats.specs.Steps.{ArePageLines}
use Rattle.dk_formats.proofs.pages.lines_of.Goals as goal

pub returns-in-Some : goal.returns-in-Some
returns-in-Some c =
    let ps = c.args.points.now in
    let are : all_vars_of ps c.in-Some.point.0 ≡ vars_under ps c.args.section.now.point =
    ap (λ (o : Option ℕ). option_map_or (all_vars_of ps) o []) (c.in-Some.ensures.place ∙ ap (place_of (names ps)) c.as_slice.ensures) in
    subst (λ (infos : List VarInfo). IfOk c.lines_at.result (ArePageLines infos c.args.section.now.lines)) are c.lines_at.ensures

pub returns-in-None : goal.returns-in-None
returns-in-None c =
    let ps = c.args.points.now in
    let none : List VarInfo = [] in
    let are : none ≡ vars_under ps c.args.section.now.point =
    ap (λ (o : Option ℕ). option_map_or (all_vars_of ps) o []) (c.in-None.ensures.place ∙ ap (place_of (names ps)) c.as_slice.ensures) in
    subst (λ (infos : List VarInfo). IfOk c.lines_over.result (ArePageLines infos c.args.section.now.lines)) are c.lines_over.ensures
