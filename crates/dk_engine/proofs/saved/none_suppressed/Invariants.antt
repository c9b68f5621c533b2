use Rattle.std.proofs.Common.{◌≡◌, ◌<◌, ℕ, false, get_or}
use Rattle.dk_suppress.specs.Rules.{is_suppressed}
use Rattle.dk_engine.specs.declared.slots.slot.Slot.{Slot}
use Rattle.dk_engine.proofs.saved.none_suppressed.Given as goal

abbrev pub invariant-loop-slot : goal.invariant-loop-slot
invariant-loop-slot g l = (k : ℕ) (d : Slot) → k < l.slot-index → is_suppressed (g.A.Answers.answered l.answers) (get_or l.slots k d).row (get_or l.slots k d).leaders ≡ false
