use Rattle.std.specs.Prelude.{◌≡◌, ◌<◌, length, slice_index_or, true}
use Rattle.std.proofs.Common.{◌∙◌, arith, inl, inr, subst, sym}
use Rattle.std.proofs.lemmas.Bool.{cases_lt}
use Rattle.std.proofs.lemmas.List.{get_or_default}
use Rattle.dk_template.specs.declared.grammar.RowId.{RowId}
use Rattle.dk_engine.specs.Feeding.Narrow.{is_in_run}
use Rattle.dk_engine.specs.Reading.Parts.{no_slot, slot_in}
use Rattle.dk_engine.specs.declared.slots.slot.Slot.{Slot}
use Rattle.dk_engine.proofs.feed.runs.open_end.Goals as goal

pub loop-other-preserved : goal.loop-other-preserved
loop-other-preserved c k from l =
    let slots = c.args.slots.now in
    let place = c.args.place in
    let other = c.loop-other.other in
    let test = c.loop-other-test.true in
    let most = c.reach_of-to.ensures.to in
    let within : other < length slots = omega (arith, test, most) in
    let first : Slot = c.index-slots-place.result in
    let item : Slot = c.index-slots-other.result in
    let at_first : slice_index_or slots place first ≡ slot_in slots place = get_or_default slots place first no_slot c.requires in
    let at : item ≡ slot_in slots other = c.index-slots-other.is ∙ get_or_default slots other item no_slot within in
    let row : RowId = (slot_in slots place).row in
    let here : is_in_run true row (slot_in slots other) ≡ true =
    subst (λ (s : Slot). is_in_run true row s ≡ true) at (subst (λ (s : Slot). is_in_run true s.row item ≡ true) at_first (sym c.is_in_run.ensures ∙ c.if-not-is_in_run.false)) in
    elim (cases_lt k other) as (λ _. is_in_run true row (slot_in slots k) ≡ true) [
      | inl lt ↦ c.loop-other.invariant k from lt
      | inr ge ↦ let same : other ≡ k = omega (arith, l, ge) in subst (λ i. is_in_run true row (slot_in slots i) ≡ true) same here
    ]
