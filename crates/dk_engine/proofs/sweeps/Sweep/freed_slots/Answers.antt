use Rattle.std.specs.Prelude.{◌<◌, ◌≤◌, ◌++◌, All, List, flat_map, length, slice_index_or, take}
use Rattle.std.proofs.Common.{ap, ◌∙◌, arith, subst, sym}
use Rattle.std.proofs.lemmas.List.{flat_map_more, take_all, take_more}
use Rattle.dk_template.specs.Templates.{IsRowOf}
use Rattle.dk_template.specs.declared.grammar.RowId.{RowId}
use Rattle.dk_engine.proofs.ReachedRows.{reached_rows}
use Rattle.dk_engine.specs.Feeding.{read_after}
use Rattle.dk_engine.specs.Sweeps.{freed_slots, with_both}
use Rattle.dk_engine.specs.declared.slots.slot.Slot.{Slot}
use Rattle.dk_engine.proofs.sweeps.Sweep.freed_slots.Goals as goal

pub with_both-requires-clause-row : goal.with_both-requires-clause-row
with_both-requires-clause-row c =
    let grammar = c.args.self.now.answers.now.whole.grammar in
    let test = c.loop-freed-test.true in
    subst (λ rs. All (IsRowOf grammar) rs) (sym c.rows_reached-freed-items.ensures) (reached_rows grammar c.args.row) c.loop-freed.freed-index (record { 0 = 0 }) (omega (arith, test))

pub loop-freed-preserved : goal.loop-freed-preserved
loop-freed-preserved c =
    let s = c.args.self.now in
    let answered = read_after s.answers.now.whole.kept s.answers.now.sample in
    let F : RowId → List Slot = λ row. with_both s.infos.now s.known.now answered row c.args.lost.now c.args.leaders.now.all in
    let items = c.rows_reached-freed-items.result.now in
    let i = c.loop-freed.freed-index in
    let row : RowId = slice_index_or items i (record { 0 = 0 }) in
    let test = c.loop-freed-test.true in
    let within : i < length items = omega (arith, test) in
    c.in_ok-with_both.ensures
    ∙ (ap (λ ss. ss ++ F row) c.loop-freed.invariant
    ∙ (flat_map_more F c.args.slots.now (take i items) row
    ∙ ap (λ rs. c.args.slots.now ++ flat_map F rs) (sym (take_more items i (record { 0 = 0 }) within))))

pub returns : goal.returns
unfolding freed_slots
returns c =
    let s = c.args.self.now in
    let F : RowId → List Slot = λ row. with_both s.infos.now s.known.now (read_after s.answers.now.whole.kept s.answers.now.sample) row c.args.lost.now c.args.leaders.now.all in
    let items = c.rows_reached-freed-items.result.now in
    let test = c.loop-freed-test.false in
    let past : length items ≤ c.loop-freed.freed-index = omega (arith, test) in
    c.loop-freed.invariant ∙ ap (λ rs. c.args.slots.now ++ flat_map F rs) (take_all c.loop-freed.freed-index items past ∙ c.rows_reached-freed-items.ensures)
