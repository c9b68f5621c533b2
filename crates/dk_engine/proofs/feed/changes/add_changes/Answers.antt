use Rattle.std.specs.Prelude.{◌≡◌, ◌≢◌, ◌<◌, ◌≤◌, ◌+◌, ℕ, All, Bool, List, length, slice_index_or, true}
use Rattle.std.proofs.Common.{ap, ◌∙◌, arith, subst, sym}
use Rattle.std.proofs.lemmas.List.{get_or_default}
use Rattle.dk_base.specs.declared.values.Value.{Value}
use Rattle.dk_forms.specs.declared.states.State.TheVariants.{Broken}
use Rattle.dk_template.specs.declared.grammar.RowId.{RowId}
use Rattle.dk_engine.proofs.Grown.{found_stay}
use Rattle.dk_engine.proofs.Running.{IsStill, of_row, shut_of_run, stays_of_still}
use Rattle.dk_engine.specs.Feeding.{read_after}
use Rattle.dk_engine.specs.Feeding.Narrow.{StayBetween, is_in_run, outcome}
use Rattle.dk_engine.specs.Feeding.Step.{Answer}
use Rattle.dk_engine.specs.Reading.Levels.{OneMore}
use Rattle.dk_engine.specs.Reading.Parts.{no_slot, slot_in}
use Rattle.dk_engine.specs.declared.slots.slot.Slot.{Slot}
use Rattle.dk_engine.proofs.feed.changes.add_changes.Goals as goal

-- a run of slots, from a place up to another, of which the first lies at hand
module _ (asked : Bool) (slots : List Slot) (from to : ℕ) (item : Slot) (within : from < length slots) (run : (k : ℕ) → from ≤ k → k < to → is_in_run asked (slot_in slots from).row (slot_in slots k) ≡ true) where
  row_at_hand : (slice_index_or slots from item).row ≡ (slot_in slots from).row
  row_at_hand = ap (λ (s : Slot). s.row) (get_or_default slots from item no_slot within)

  all_of_row : (k : ℕ) → from ≤ k → k < to → (slot_in slots k).row ≡ (slice_index_or slots from item).row
  all_of_row k a b = of_row asked (slot_in slots from).row (slot_in slots k) (run k a b) ∙ sym row_at_hand

  module _ (after : Answer) (sample : List Value) where
    -- those that are still stay
    stay : All (λ (s : Slot). s.state ≢ Broken) slots → to ≤ length slots → (place end : ℕ) → from ≤ place → end ≤ to → ((k : ℕ) → place ≤ k → k < end → IsStill (slice_index_or slots from item).row sample (slot_in slots k))
        → StayBetween place end (outcome asked after sample) slots
    stay whole long place end first most still k a b =
        let l : k < to = omega (arith, b, most) in
        let f : from ≤ k = omega (arith, first, a) in
        stays_of_still asked (slot_in slots from).row (slot_in slots k) (run k f l) (whole k no_slot (omega (arith, l, long))) after sample (subst (λ (r : RowId). IsStill r sample (slot_in slots k)) row_at_hand (still k a b))

pub still_to-place-requires-clause-of_row : goal.still_to-place-requires-clause-of_row
still_to-place-requires-clause-of_row c =
    let order = c.requires.from in
    let most = c.requires.to in
    all_of_row c.args.asked c.args.slots.now c.args.from c.args.to c.index-slots-from.result (omega (arith, order, most)) c.requires.run

pub loop-place-init : goal.loop-place-init
loop-place-init c =
    let o : OneMore = c.args.after.now in
    let slots = c.args.slots.now in
    let asked = c.args.asked in
    let after : Answer = read_after o.whole.kept o.sample in
    let from = c.args.from in
    let to = c.args.to in
    let order = c.requires.from in
    let most = c.requires.to in
    let told = c.still_to-place.ensures in
    let still : StayBetween from c.still_to-place.result (outcome asked after o.sample) slots =
    stay asked slots from to c.index-slots-from.result (omega (arith, order, most)) c.requires.run after o.sample c.requires.unbroken most from c.still_to-place.result (omega arith) told.to told.still in
    (found_stay (outcome asked after o.sample) slots from c.args.found.now c.requires.below c.still_to-place.result still, told.from, told.to)

pub loop-place-preserved : goal.loop-place-preserved
loop-place-preserved c =
    let o : OneMore = c.args.after.now in
    let slots = c.args.slots.now in
    let asked = c.args.asked in
    let after : Answer = read_after o.whole.kept o.sample in
    let from = c.args.from in
    let to = c.args.to in
    let order = c.requires.from in
    let most = c.requires.to in
    let place = c.loop-place.place in
    let first = c.loop-place.invariant.1 in
    let test = c.loop-place-test.true in
    let told = c.still_to-place-in-loop-place.ensures in
    let behind = told.from in
    let r = c.still_to-place-in-loop-place.result in
    let within : from < length slots = omega (arith, order, most) in
    let still : StayBetween (place + 1) r (outcome asked after o.sample) slots =
    stay asked slots from to c.index-slots-from.result within c.requires.run after o.sample c.requires.unbroken most (place + 1) r (omega (arith, first)) told.to told.still in
    (found_stay (outcome asked after o.sample) slots (place + 1) c.push_found.new.found c.in_ok-push_found.ensures r still, omega (arith, first, behind), told.to)

pub push_found-requires-clause-stays_open : goal.push_found-requires-clause-stays_open
push_found-requires-clause-stays_open c =
    let slots = c.args.slots.now in
    let place = c.loop-place.place in
    shut_of_run c.args.asked (slot_in slots c.args.from).row (slot_in slots place) (c.requires.run place c.loop-place.invariant.1 c.loop-place-test.true)

pub add_seen-requires-clause-stay_open : goal.add_seen-requires-clause-stay_open
add_seen-requires-clause-stay_open c k from to =
    let slots = c.args.slots.now in
    shut_of_run c.args.asked (slot_in slots c.args.from).row (slot_in slots k) (c.requires.run k from to)
