use Rattle.std.proofs.Common.{◌≡◌, ◌≤◌, ◌<◌, ◌∙◌, ap, arith, get_or, length, List, Option, refl, rules, ℕ}
use Rattle.dk_table.proofs.Judged.{columns_all, columns_more, columns_within}
use Rattle.dk_table.specs.Columns.Judging.{Judged, with_cell}
use Rattle.dk_table.specs.declared.columns.judging.Column.{Column}
use Rattle.dk_table.proofs.columns.judging.Judge.take_cells.Goals as goal

pub index_mut-requires : goal.index_mut-requires
index_mut-requires c =
    let old = c.args.self.now.columns in
    let same : length c.self.inside.columns.items ≡ length old = ap (λ (j : Judged). length j.columns) c.self.view_is in
    let lt : c.loop-place.place < length old = omega (arith, c.loop-place-test.true, c.len-place-end.ensures, c.self.inside.columns.ok.0, same) in
    omega (arith, columns_within c.args.rows.now.row old c.loop-place.self-inside.columns.items c.loop-place.place lt c.loop-place.invariant.1, c.loop-place.self-inside.columns.ok.0)

pub loop-place-preserved : goal.loop-place-preserved
loop-place-preserved c =
    let old = c.args.self.now.columns in
    let items = c.loop-place.self-inside.columns.items in
    let i = c.loop-place.place in
    let was = c.index_mut.result.now in
    let same : length c.self.inside.columns.items ≡ length old = ap (λ (j : Judged). length j.columns) c.self.view_is in
    let lt : i < length old = omega (arith, c.loop-place-test.true, c.len-place-end.ensures, c.self.inside.columns.ok.0, same) in
    let got : was ≡ get_or items i was = first_of (search rules, grind arith) in (
      c.loop-place.invariant.0,
      columns_more c.args.rows.now.row old items _ i was c.take.new.self lt c.loop-place.invariant.1 got (c.in_ok-take.ensures ∙ ap (with_cell was) c.cell.ensures) refl,
    )

pub returns : goal.returns
returns c =
    let old = c.args.self.now.columns in
    let items = c.loop-place.self-inside.columns.items in
    let i = c.loop-place.place in
    let same : length c.self.inside.columns.items ≡ length old = ap (λ (j : Judged). length j.columns) c.self.view_is in
    let past : length old ≤ i = omega (arith, c.loop-place-test.false, c.len-place-end.ensures, c.self.inside.columns.ok.0, same) in
    let made : Option ℕ → List Column → Judged = λ l cs. record { left = l; columns = cs } in
    ap (λ (l : Option ℕ). made l items) c.loop-place.invariant.0 ∙ ap (made c.args.self.now.left) (columns_all c.args.rows.now.row old items i past c.loop-place.invariant.1)
