use Rattle.std.specs.Prelude.{◌≡◌, ◌<◌, ◌≤◌, ℕ, List, length, slice_index_or}
use Rattle.std.specs.List.{AllPairs}
use Rattle.std.proofs.Common.{ap, arith, subst}
use Rattle.std.proofs.lemmas.List.{get_or_default}
use Rattle.dk_template.specs.declared.grammar.RowId.{RowId}
use Rattle.dk_engine.proofs.Running.{of_one_row, place_in_front}
use Rattle.dk_engine.specs.Exact.{SlotBefore}
use Rattle.dk_engine.specs.Reading.Parts.{no_slot, slot_in}
use Rattle.dk_engine.specs.declared.slots.slot.Slot.{Slot}
use Rattle.dk_engine.proofs.feed.runs.row_end.Goals as goal

module _ (slots : List Slot) (up : AllPairs SlotBefore slots) (place end : ℕ) (item : Slot) (within : place < length slots)
    (in_front : (k : ℕ) → k < end → (slot_in slots k).row.0 ≤ (slice_index_or slots place item).row.0)
    (behind : (k : ℕ) → end ≤ k → k < length slots → (slice_index_or slots place item).row.0 < (slot_in slots k).row.0) where
  row_at : (slice_index_or slots place item).row ≡ (slot_in slots place).row
  row_at = ap (λ (s : Slot). s.row) (get_or_default slots place item no_slot within)

  low : (k : ℕ) → k < end → (slot_in slots k).row.0 ≤ (slot_in slots place).row.0
  low k l = subst (λ (r : RowId). (slot_in slots k).row.0 ≤ r.0) row_at (in_front k l)

  high : (k : ℕ) → end ≤ k → k < length slots → (slot_in slots place).row.0 < (slot_in slots k).row.0
  high k from l = subst (λ (r : RowId). r.0 < (slot_in slots k).row.0) row_at (behind k from l)

  ahead : place < end
  ahead = place_in_front slots up place end within low high

  one_row : end ≤ length slots → (k : ℕ) → place ≤ k → k < end → (slot_in slots k).row ≡ (slot_in slots place).row
  one_row = of_one_row slots up place end within low high

pub overflow_sub-end : goal.overflow_sub-end
overflow_sub-end c =
    let told = c.rows_end-end.ensures in
    let more = ahead c.args.slots.now c.requires.in_order c.args.place c.rows_end-end.result c.index-slots-place.result c.requires.within told.in_front told.behind in
    omega (arith, more)

pub returns-then-end-place-le-REACH-clause-from : goal.returns-then-end-place-le-REACH-clause-from
returns-then-end-place-le-REACH-clause-from c =
    let told = c.rows_end-end.ensures in
    ahead c.args.slots.now c.requires.in_order c.args.place c.rows_end-end.result c.index-slots-place.result c.requires.within told.in_front told.behind

pub returns-then-end-place-le-REACH-clause-of_row : goal.returns-then-end-place-le-REACH-clause-of_row
returns-then-end-place-le-REACH-clause-of_row c =
    let told = c.rows_end-end.ensures in
    one_row c.args.slots.now c.requires.in_order c.args.place c.rows_end-end.result c.index-slots-place.result c.requires.within told.in_front told.behind told.within

pub returns-else-end-place-le-REACH-clause-of_row : goal.returns-else-end-place-le-REACH-clause-of_row
returns-else-end-place-le-REACH-clause-of_row c k from to =
    let told = c.rows_end-end.ensures in
    one_row c.args.slots.now c.requires.in_order c.args.place c.rows_end-end.result c.index-slots-place.result c.requires.within told.in_front told.behind told.within k from (omega arith)
