-- Slots that are changed where they lie.
use Rattle.std.specs.Prelude.{◌≡◌, ◌++◌, ◌∷◌, ℕ, List, [], fold, length, refl, take}
use Rattle.std.proofs.Common.{◌∙◌, ap, arith}
use Rattle.std.proofs.lemmas.List.{length-set, take-append-le, take_all}
use Rattle.dk_engine.proofs.Applying.{changes_keep_length}
use Rattle.dk_engine.specs.Feeding.Narrow.{grown_state, with_change, with_growth, with_state}
use Rattle.dk_engine.specs.Reading.Parts.{slot_in}
use Rattle.dk_engine.specs.declared.feed.changes.SlotChanges.{SlotChanges}
use Rattle.dk_engine.specs.declared.feed.growing.Growth.{Growth}
use Rattle.dk_engine.specs.declared.slots.slot.Slot.{Slot}

growths_keep_length : (growths : List Growth) (cur : List Slot) → length (fold with_growth cur growths) ≡ length cur
growths_keep_length [] cur = refl
growths_keep_length (g ∷ growths) cur =
    growths_keep_length growths (with_growth cur g) ∙ length-set cur g.place (with_state (slot_in cur g.place) (grown_state (slot_in cur g.place) g))

-- the slots with all growths and changes
abbrev pub with_found : List Slot → SlotChanges → List Slot
with_found slots found = fold with_change (fold with_growth slots found.growths) found.changes

-- they are as many, so that the list holds them and no more
pub found_all : (slots : List Slot) (found : SlotChanges) (n : ℕ) → length slots ≡ n → (all : List Slot) → all ≡ with_found slots found → (rest : List Slot) → take n (all ++ rest) ≡ with_found slots found
found_all slots found n long all is rest =
    let same : length all ≡ n = ap (λ (ss : List Slot). length ss) is ∙ (changes_keep_length found.changes (fold with_growth slots found.growths) ∙ (growths_keep_length found.growths slots ∙ long)) in
    take-append-le n all rest (omega (arith, same)) ∙ (take_all n all (omega (arith, same)) ∙ is)
