use Rattle.std.specs.Prelude.{◌≡◌}
use Rattle.std.proofs.Common.{◌∙◌, arith, subst, sym}
use Rattle.std.proofs.lemmas.List.{get_or_default}
use Rattle.dk_engine.proofs.Passing.{notes_more}
use Rattle.dk_engine.specs.Idle.{AreNotes, IsIdle}
use Rattle.dk_engine.specs.Reading.Parts.{no_slot, slot_in}
use Rattle.dk_engine.specs.declared.slots.slot.Slot.{Slot}
use Rattle.dk_engine.proofs.idle.note_idle.Goals as goal

pub note-requires : goal.note-requires
note-requires c =
    let long = c.requires.notes.0 in
    let within = c.requires.within in
    omega (arith, long, within)

pub returns : goal.returns
returns c =
    let watch = c.args.watch.now in
    let slots = c.args.slots.now in
    let place = c.args.place in
    let item : Slot = c.index-slots-place.result in
    let at : item ≡ slot_in slots place = c.index-slots-place.is ∙ get_or_default slots place item no_slot c.requires.within in
    let idle : IsIdle watch (slot_in slots place) = subst (IsIdle watch) at (c.is_idle.ensures c.if-not-is_idle.false) in
    subst (AreNotes watch slots) (sym c.note.ensures) (notes_more watch slots c.args.skips.now place idle c.requires.notes c.requires.within)
