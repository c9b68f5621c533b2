use Rattle.std.proofs.Common.{◌≡◌, ◌<◌, ◌+◌, ℕ, get_or, true}
use Rattle.dk_presence.specs.declared.held.Held.{Held}
use Rattle.dk_snapshot.specs.Patterns.{pattern_of}
use Rattle.dk_snapshot.specs.Restored.{is_before}
use Rattle.dk_snapshot.proofs.presence.held_in_order.Given as goal

abbrev pub invariant-loop-i : goal.invariant-loop-i
invariant-loop-i l = (k : ℕ) (d : Held) → k + 1 < l.i → is_before (pattern_of l.leaders (get_or l.held k d)) (pattern_of l.leaders (get_or l.held (k + 1) d)) ≡ true
