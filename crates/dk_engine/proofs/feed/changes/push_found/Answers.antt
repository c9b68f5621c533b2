use Rattle.std.specs.Prelude.{◌≡◌, ◌<◌, ◌++◌, ◌∷◌, ℕ, [], List, length, slice_index_or}
use Rattle.std.proofs.Common.{◌∙◌, refl, subst}
use Rattle.std.proofs.lemmas.List.{get_or_default}
use Rattle.std.proofs.lemmas.Result.{on_ok_weaker}
use Rattle.dk_base.specs.Values.{values_of}
use Rattle.dk_base.specs.declared.values.Value.{Value}
use Rattle.dk_engine.proofs.Grown.{found_grown, found_joined, found_still}
use Rattle.dk_engine.specs.Feeding.{read_after, with_sample}
use Rattle.dk_engine.specs.Feeding.Narrow.{IsSeen}
use Rattle.dk_engine.specs.Reading.Levels.{OneMore}
use Rattle.dk_engine.specs.Reading.Parts.{no_slot, slot_in}
use Rattle.dk_engine.specs.declared.feed.changes.Change.{Change}
use Rattle.dk_engine.specs.declared.feed.changes.SlotChanges.{SlotChanges}
use Rattle.dk_engine.specs.declared.feed.growing.Seen.{Seen}
use Rattle.dk_engine.specs.declared.feed.growing.Seen.TheVariants.{Grows, Stays}
use Rattle.dk_engine.specs.declared.slots.slot.Slot.{Slot}
use Rattle.dk_engine.proofs.feed.changes.push_found.Goals as goal

-- what is seen of a sample and a slot
abbrev IsSeenWith : List Value → ℕ → Seen → Slot → Type 0
IsSeenWith sample place seen slot = IsSeen slot (with_sample slot.row slot.leaders sample slot.state) place seen

-- what is seen of the slot at hand
at_place : (slots : List Slot) (place : ℕ) (item : Slot) → place < length slots → item ≡ slice_index_or slots place item → (held sample : List Value) → held ≡ sample → (seen : Seen)
    → IsSeenWith held place seen item → IsSeenWith sample place seen (slot_in slots place)
at_place slots place item within is held sample same seen told =
    subst (λ (ss : List Value). IsSeenWith ss place seen (slot_in slots place)) same (subst (IsSeenWith held place seen) (is ∙ get_or_default slots place item no_slot within) told)

pub returns-in-Stays : goal.returns-in-Stays
returns-in-Stays c =
    let o : OneMore = c.args.after.now in
    let slots = c.args.slots.now in
    let place = c.args.place in
    let still = at_place slots place c.index-slots-place.result c.requires.within c.index-slots-place.is (values_of c.args.sample.now) o.sample c.requires.sample Stays c.in-Stays.ensures in
    found_still c.args.asked (read_after o.whole.kept o.sample) o.sample slots place c.requires.within c.requires.stays_open c.args.found.now c.requires.below still (c.requires.unbroken place no_slot c.requires.within)

pub returns-in-Grows : goal.returns-in-Grows
returns-in-Grows c =
    let o : OneMore = c.args.after.now in
    let slots = c.args.slots.now in
    let place = c.args.place in
    let growth = c.in-Grows.growth in
    let grown = at_place slots place c.index-slots-place.result c.requires.within c.index-slots-place.is (values_of c.args.sample.now) o.sample c.requires.sample (Grows growth) c.in-Grows.ensures in
    let found : SlotChanges = c.args.found.now in
    let more : SlotChanges = record { growths = c.push_growth.new.growths; changes = found.changes } in
    on_ok_weaker c.push_growth.result (λ (e : c.push_growth.new.growths ≡ found.growths ++ growth ∷ []).
    found_grown c.args.asked (read_after o.whole.kept o.sample) o.sample slots place c.requires.within c.requires.stays_open found c.requires.below growth grown more e refl) c.push_growth.ensures

pub returns-in-Neither : goal.returns-in-Neither
returns-in-Neither c =
    let o : OneMore = c.args.after.now in
    let slots = c.args.slots.now in
    let place = c.args.place in
    let slot = slot_in slots place in
    let change : Change = record { place = place; state = with_sample slot.row slot.leaders o.sample slot.state } in
    let found : SlotChanges = c.args.found.now in
    let more : SlotChanges = record { growths = found.growths; changes = c.push_joined.new.changes } in
    on_ok_weaker c.push_joined.result (λ (e : c.push_joined.new.changes ≡ found.changes ++ change ∷ []).
    found_joined c.args.asked (read_after o.whole.kept o.sample) o.sample slots place c.requires.within c.requires.stays_open found c.requires.below more refl e) c.push_joined.ensures
