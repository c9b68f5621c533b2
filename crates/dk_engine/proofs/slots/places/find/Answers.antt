use Rattle.std.specs.Prelude.{Some}
use Rattle.std.proofs.Common.{◌∙◌, ap, arith, sym}
use Rattle.std.proofs.lemmas.List.{get_or_default}
use Rattle.dk_engine.proofs.SlotPlaces.{place_found, place_missing}
use Rattle.dk_engine.specs.Reading.Parts.{is_slot_of}
use Rattle.dk_engine.specs.declared.slots.slot.Slot.{Slot}
use Rattle.dk_engine.proofs.slots.places.find.Goals as goal
use Rattle.dk_engine.proofs.slots.places.find.Goals.{else-place-slots-via-else-place-slots, else-place-slots-via-then-place-slots+else-is_slot_of}

pub returns-then-is_slot_of : goal.returns-then-is_slot_of
returns-then-is_slot_of c =
    let slots = c.args.slots.now in
    let row = c.args.row in
    let leaders = c.args.leaders.now in
    let place = c.place_of-place.result in
    let asked : Slot = c.index-slots-place.result in
    let found : Slot = c.index-slots-place-then-is_slot_of.result in
    let within = c.if-place-slots.true in
    let same = c.index-slots-place.is ∙ get_or_default slots place asked found within in
    let is = ap (is_slot_of row leaders) (sym same) ∙ (sym c.is_slot_of.ensures ∙ c.if-is_slot_of.true) in
    place_found row leaders slots c.requires place c.place_of-place.ensures.parted found within is ∙ ap (λ (s : Slot). Some s.state) (sym c.index-slots-place-then-is_slot_of.is)

pub returns : goal.returns
returns c =
    let slots = c.args.slots.now in
    let row = c.args.row in
    let leaders = c.args.leaders.now in
    let place = c.place_of-place.result in
    elim c.else-place-slots.branch [
      | else-place-slots-via-then-place-slots+else-is_slot_of w ↦
          let asked : Slot = w.index-slots-place.result in
          place_missing row leaders slots c.requires place c.place_of-place.ensures.parted (λ d l.
          ap (is_slot_of row leaders) (sym (w.index-slots-place.is ∙ get_or_default slots place asked d l)) ∙ (sym w.is_slot_of.ensures ∙ w.if-is_slot_of.false))
      | else-place-slots-via-else-place-slots w ↦ place_missing row leaders slots c.requires place c.place_of-place.ensures.parted (λ d l. let past = w.if-place-slots.false in absurd (omega (arith, l, past)))
    ]
