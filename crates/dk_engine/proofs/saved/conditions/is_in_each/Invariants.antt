use Rattle.std.proofs.Common.{◌≡◌, ◌<◌, ℕ, get_or}
use Rattle.dk_presence.specs.Patterns.{has}
use Rattle.dk_presence.specs.declared.held.Held.{Held}
use Rattle.dk_engine.proofs.saved.conditions.is_in_each.Given as goal

abbrev pub invariant-loop-pattern : goal.invariant-loop-pattern
invariant-loop-pattern l = (k : ℕ) (d : Held) → k < l.pattern-index → has (get_or l.held k d).leaders l.v ≡ l.present
