use Rattle.std.proofs.Common.{◌<◌, ℕ, get_or}
use Rattle.dk_engine.specs.Saved.Restored.{IsOpenSlot}
use Rattle.dk_engine.specs.declared.slots.slot.Slot.{Slot}
use Rattle.dk_engine.proofs.saved.conditions.are_open_slots.Given as goal

abbrev pub invariant-loop-slot : goal.invariant-loop-slot
invariant-loop-slot l = (k : ℕ) (d : Slot) → k < l.slot-index → IsOpenSlot l.grammar l.infos l.kept (get_or l.kept.slots k d)
