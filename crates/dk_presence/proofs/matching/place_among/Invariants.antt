use Rattle.std.proofs.Common.{◌≡◌, ◌<◌, ℕ, [], false, get_or}
use Rattle.dk_base.specs.Values.{values_of}
use Rattle.dk_presence.specs.Patterns.{held_patterns, present_in, same_vars}
use Rattle.dk_presence.proofs.matching.place_among.Given as goal

abbrev pub invariant-loop-place : goal.invariant-loop-place
invariant-loop-place l = (k : ℕ) → k < l.place → same_vars (present_in l.leaders (values_of l.sample)) (get_or (held_patterns l.held) k []) ≡ false
