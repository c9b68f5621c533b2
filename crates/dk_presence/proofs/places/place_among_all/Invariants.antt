use Rattle.std.proofs.Common.{◌≡◌, ◌<◌, ℕ, [], false, get_or}
use Rattle.dk_presence.specs.Patterns.{held_patterns, same_vars}
use Rattle.dk_presence.proofs.places.place_among_all.Given as goal

abbrev pub invariant-loop-place : goal.invariant-loop-place
invariant-loop-place l = (k : ℕ) → k < l.place → same_vars l.present (get_or (held_patterns l.held) k []) ≡ false
