use Rattle.std.specs.Prelude.{◌≡◌, ◌<◌, ◌-◌, ℕ, length}
use Rattle.std.proofs.Common.{◌∙◌, ap, arith, rules, sym}
use Rattle.std.proofs.lemmas.List.{get_or_default}
use Rattle.dk_engine.proofs.Running.{up_to_row}
use Rattle.dk_engine.specs.Reading.Parts.{no_slot, slot_in}
use Rattle.dk_engine.specs.declared.slots.slot.Slot.{Slot}
use Rattle.dk_engine.proofs.feed.runs.are_of_row.Goals as goal

pub returns : goal.returns
returns c h k from to =
    let slots = c.args.slots.now in
    let place = c.args.place in
    let last = c.args.end - 1 in
    let order = c.requires.from in
    let most = c.requires.to in
    let within : last < length slots = omega (arith, order, most) in
    let here : place < length slots = omega (arith, order, most) in
    let number : Slot → ℕ = λ s. s.row.0 in
    let at_last : c.index-slots-last.result ≡ slot_in slots last = c.index-slots-last.is ∙ get_or_default slots last c.index-slots-last.result no_slot within in
    let at_place : c.index-slots-place.result ≡ slot_in slots place = c.index-slots-place.is ∙ get_or_default slots place c.index-slots-place.result no_slot here in
    let same : c.index-slots-last.result.row.0 ≡ c.index-slots-place.result.row.0 = search (rules, h) in
    up_to_row slots c.requires.in_order place last within (sym (ap number at_last) ∙ (same ∙ ap number at_place)) k from (omega (arith, to, order))
