use Rattle.std.specs.Prelude.{◌≡◌, List, fold, length}
use Rattle.std.proofs.Common.{◌∙◌, ap, rules, subst, sym}
use Rattle.dk_engine.proofs.Placed.{found_all, with_found}
use Rattle.dk_engine.specs.Feeding.Narrow.{with_change, with_growth}
use Rattle.dk_engine.specs.Idle.{AreSkips}
use Rattle.dk_engine.specs.declared.feed.changes.Change.{Change}
use Rattle.dk_engine.specs.declared.feed.changes.SlotChanges.{SlotChanges}
use Rattle.dk_engine.specs.declared.feed.growing.Growth.{Growth}
use Rattle.dk_engine.specs.declared.slots.slot.Slot.{Slot}
use Rattle.dk_engine.proofs.slots.Slots.change.Goals as goal

pub invariant_of-self : goal.invariant_of-self
invariant_of-self c =
    let s = c.self.inside in
    let found : SlotChanges = c.args.found in
    let long : length s.all.items ≡ s.all.len = ap (λ (ss : List Slot). length ss) (sym c.as_mut_slice-slots.ensures.value) ∙ c.as_mut_slice-slots.ensures.len in
    let growths : c.as_slice-2.result.now ≡ found.growths = search rules in
    let grown : c.grow_slots.new.slots ≡ fold with_growth s.all.items found.growths =
    c.grow_slots.ensures ∙ (ap (λ (ss : List Slot). fold with_growth ss c.as_slice-2.result.now) c.as_mut_slice-slots.ensures.value ∙ ap (λ (gs : List Growth). fold with_growth s.all.items gs) growths) in
    let all : c.change_slots.new.slots ≡ with_found s.all.items found =
    c.change_slots.ensures ∙ (ap (λ (ss : List Slot). fold with_change ss c.into_vec.result.items) grown ∙ ap (λ (cs : List Change). fold with_change (fold with_growth s.all.items found.growths) cs) c.into_vec.ensures) in
    subst (λ (ss : List Slot). AreSkips c.keep_notes.new.notes.watch ss c.keep_notes.new.notes.skips.items) (sym (found_all s.all.items found s.all.len long c.change_slots.new.slots all _)) (c.keep_notes.ensures s.all.items c.self.invariant)
