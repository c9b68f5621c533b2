-- Patterns, each with a truth value for each leader.
use Rattle.std.specs.Prelude.{◌==◌, ℕ, Bool, false, List, [], ◌∷◌, map, nat_lt, if◌then◌else◌}
use Rattle.std.specs.Cmp.Lexicographic.{slice_cmp}
use Rattle.std.specs.Global.{Vec}
use Rattle.std.specs.Ordering.{bool_cmp, nat_cmp, ordering_then}
use Rattle.std.specs.declared.cmp.Ordering.{Ordering}
use Rattle.dk_base.specs.declared.kinds.VarId.{VarId}
use Rattle.dk_presence.specs.Patterns.{has}
use Rattle.dk_presence.specs.declared.held.Held.{Held}
use Rattle.dk_snapshot.specs.Sorting.{ascending}
use Rattle.dk_snapshot.specs.declared.pattern.Pattern.{Pattern}

-- for each leader whether it is present
abbrev pub pattern_of : List VarId → Held → Pattern
pattern_of leaders h = record { count = h.count; present = map (has h.leaders) leaders }

-- by the leaders in order, an absent one first; and then by the count
abbrev pub pattern_cmp : Pattern → Pattern → Ordering
pattern_cmp a b = ordering_then (slice_cmp bool_cmp a.present b.present) (nat_cmp a.count b.count)

-- the patterns over these leaders, ascending
abbrev pub patterns_of : List VarId → List Held → List Pattern
patterns_of leaders held = ascending pattern_cmp (map (pattern_of leaders) held)

-- the variables from the first one on that isn't before v
abbrev pub from_var : VarId → List VarId → List VarId
from_var v [] = []
from_var v (w ∷ vars) = if nat_lt w.0 v.0 then from_var v vars else w ∷ vars

-- v is the first of the variables
abbrev pub is_first : VarId → List VarId → Bool
is_first v [] = false
is_first v (w ∷ vars) = w.0 == v.0

-- truth values with a count, as a pattern
abbrev pub seen : Vec Bool × ℕ → Pattern
seen p = record { count = p.1; present = p.0.items }
