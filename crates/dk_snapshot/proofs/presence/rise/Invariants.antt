use Rattle.std.proofs.Common.{◌≡◌, ◌<◌, ◌+◌, ℕ, get_or, true}
use Rattle.dk_snapshot.specs.Restored.{is_before}
use Rattle.dk_snapshot.specs.declared.pattern.Pattern.{Pattern}
use Rattle.dk_snapshot.proofs.presence.rise.Given as goal

abbrev pub invariant-loop-i : goal.invariant-loop-i
invariant-loop-i l = (k : ℕ) (d : Pattern) → k + 1 < l.i → is_before (get_or l.patterns k d) (get_or l.patterns (k + 1) d) ≡ true
