-- Small joins, computed from the definitions.
use Rattle.std.specs.Prelude.{◌≡◌, pos, false, List, [], ◌∷◌, map, refl}
use Rattle.dk_base.specs.declared.kinds.VarId.{VarId}
use Rattle.dk_base.specs.declared.values.Value.TheVariants as value
use Rattle.dk_engine.specs.declared.kept.Kept.{Kept}
use Rattle.dk_presence.specs.declared.held.Held.{Held}
use Rattle.dk_join.specs.Joined.{joined_known, present_with, times_present}
use Rattle.dk_join.specs.Joining.{agree_joined, count_joined}

abbrev x : VarId
x = record { 0 = 0 }

-- ---- classes, patterns and constants
-- x, y and z: x and y agreed in the first list, in which z was missing; y and z agreed in the second. Each is a leader now.
abbrev y : VarId
y = record { 0 = 1 }

abbrev z : VarId
z = record { 0 = 2 }

abbrev first_two : Kept
first_two = record {
  samples = 3;
  leaders = x ∷ x ∷ z ∷ [];
  known = (z, value.Missing) ∷ [];
  held = record { count = 2; leaders = x ∷ [] } ∷ record { count = 1; leaders = [] } ∷ [];
  slots = [];
}

abbrev last_two : Kept
last_two = record {
  samples = 2;
  leaders = x ∷ y ∷ y ∷ [];
  known = (y, value.Int (pos 5)) ∷ [];
  held = record { count = 1; leaders = x ∷ y ∷ [] } ∷ record { count = 1; leaders = y ∷ [] } ∷ [];
  slots = [];
}

abbrev all_three : List VarId
all_three = x ∷ y ∷ z ∷ []

first_patterns : map (λ (h : Held). present_with first_two.leaders all_three h.leaders) first_two.held ≡ (x ∷ y ∷ []) ∷ [] ∷ []
first_patterns = refl

last_patterns : map (λ (h : Held). present_with last_two.leaders all_three h.leaders) last_two.held ≡ (x ∷ y ∷ z ∷ []) ∷ (y ∷ z ∷ []) ∷ []
last_patterns = refl

counts : count_joined first_two last_two (x ∷ y ∷ []) ≡ 3
counts = refl

-- z was missing, and 5
no_constants : joined_known first_two last_two all_three ≡ []
no_constants = refl

-- both lists had the value 5 alone
one_constant : joined_known last_two last_two all_three ≡ (y, value.Int (pos 5)) ∷ (z, value.Int (pos 5)) ∷ []
one_constant = refl

-- y and z were present without x in one of the last two samples, and x alone in none
only_x : times_present first_two.leaders all_three first_two.held (x ∷ []) ≡ 0
only_x = refl

x_and_y : times_present first_two.leaders all_three first_two.held (x ∷ y ∷ []) ≡ 2
x_and_y = refl

y_and_z : times_present last_two.leaders all_three last_two.held (y ∷ z ∷ []) ≡ 1
y_and_z = refl

agree : agree_joined first_two last_two x y ≡ false
agree = refl
