use Rattle.std.specs.Prelude.{◌≡◌, Some, length, map, refl, slice_get}
use Rattle.std.proofs.Common.{◌∙◌, ap, sym}
use Rattle.std.proofs.lemmas.Bool.{ltb-true}
use Rattle.std.proofs.lemmas.Option.{slice_get_read}
use Rattle.dk_join.proofs.Noting.{mapped, noted_at}
use Rattle.dk_join.proofs.noted.Noted.at.Goals as goal

pub returns-in-Some-get : goal.returns-in-Some-get
returns-in-Some-get c = λ v w first second.
    let noted = c.args.self.now in
    let lines = c.deref.result.now in
    let line = c.in-Some.line.now in
    let items = c.deref-in-Some.result.now in
    let equal = c.in-Some-get.equal.now in
    let here : slice_get noted.lines.items c.args.i ≡ Some line =
    ap (λ ls. slice_get ls c.args.i) (sym c.deref.ensures.value) ∙ slice_get_read lines (length lines) c.args.i line refl (ltb-true _ _ (sym c.in-Some.ensures.lookup.0)) c.in-Some.ensures.lookup.1 in
    let there : slice_get line.items c.args.j ≡ Some equal =
    ap (λ bs. slice_get bs c.args.j) (sym c.deref-in-Some.ensures.value) ∙ slice_get_read items (length items) c.args.j equal refl (ltb-true _ _ (sym c.in-Some-get.ensures.lookup.0)) c.in-Some-get.ensures.lookup.1 in
    noted_at noted.engine.now noted.leaders.items (map (λ l. l.items) noted.lines.items) noted.noted c.args.i c.args.j v w line.items equal first second
    (mapped (λ l. l.items) noted.lines.items c.args.i line here) there
