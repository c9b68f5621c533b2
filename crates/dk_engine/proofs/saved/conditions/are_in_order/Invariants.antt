use Rattle.std.proofs.Common.{◌<◌, ℕ, get_or}
use Rattle.dk_engine.specs.Exact.{SlotBefore}
use Rattle.dk_engine.specs.declared.slots.slot.Slot.{Slot}
use Rattle.dk_engine.proofs.saved.conditions.are_in_order.Given as goal

abbrev pub invariant-loop-i : goal.invariant-loop-i
invariant-loop-i l = (a b : ℕ) (d : Slot) → a < b → b < l.i → SlotBefore (get_or l.slots a d) (get_or l.slots b d)
