-- Slots that no sample changes of which some facts are true, and how a search for changed slots passes over them. A fact speaks of
-- variables and their numbers alone, and is true where one of its variables is missing: a number is within bounds, some rise, or two
-- compare as they did.
pub mod Bounding
use Rattle.std.specs.Prelude.{◌≡◌, ◌<◌, ◌≤◌, ◌^◌, ◌&&◌, ◌||◌, ◌==◌, ℕ, ℤ, pos, negsuc, neg_ℤ, Bool, true, false, List, [], ◌∷◌, Option, None, Some, if◌then◌else◌, int_le, int_lt, length, nat_le, nat_lt, slice_index_or, unsigned_abs}
use Rattle.std.specs.List.{list_all, list_any}
use Rattle.std.specs.Ordering.{int_eq}
use Rattle.dk_base.specs.declared.kinds.VarId.{VarId}
use Rattle.dk_base.specs.declared.values.Value.{Value}
use Rattle.dk_base.specs.declared.values.Value.TheVariants as value
use Rattle.dk_forms.specs.declared.states.State.{State}
use Rattle.dk_forms.specs.declared.states.State.TheVariants.{Greatest, Least, Plane, Span, Straight}
use Rattle.dk_grammar.specs.Runs.{with_sample}
use Rattle.dk_samples.specs.Samples.{value_in}
use Rattle.dk_template.specs.Numbers as number
use Rattle.dk_engine.specs.Idle.Bounding.{compares}
use Rattle.dk_engine.specs.Reading.Parts.{slot_in}
use Rattle.dk_engine.specs.declared.idle.Watch.{Watch}
use Rattle.dk_engine.specs.declared.idle.facts.Compared.{Compared}
use Rattle.dk_engine.specs.declared.idle.facts.Range.{Range}
use Rattle.dk_engine.specs.declared.slots.slot.Slot.{Slot}

-- the variable is among them
abbrev pub is_among : List VarId → VarId → Bool
is_among vars v = list_any (λ (n : VarId). n.0 == v.0) vars

-- ---- variables within bounds
-- from the one number to the other, or missing
abbrev pub is_between : ℤ → ℤ → Value → Bool
is_between least greatest (value.Int z) = int_le least z && int_le z greatest
is_between least greatest value.Missing = true
is_between least greatest _ = false

abbrev pub is_within : List Value → Range → Bool
is_within sample r = is_between r.least r.greatest (value_in sample r.var)

abbrev pub are_within : List Value → List Range → Bool
are_within sample ranges = list_all (is_within sample) ranges

-- the variable's numbers are known by the bounds of one of them
abbrev pub is_known : List Range → VarId → (Range → Bool) → Bool
is_known ranges v holds = list_any (λ (r : Range). r.var.0 == v.0 && holds r) ranges

-- at most 2^30 in size
abbrev pub is_near_number : ℤ → Bool
is_near_number z = nat_le (unsigned_abs z) (2 ^ 30)

-- bounds of numbers that are no less than this one, that are no greater, that are near, or that are one alone, of which this is the opposite
abbrev pub is_from : ℤ → Range → Bool
is_from least r = int_le least r.least

abbrev pub is_to : ℤ → Range → Bool
is_to greatest r = int_le r.greatest greatest

abbrev pub are_near : Range → Bool
are_near r = is_near_number r.least && is_near_number r.greatest

abbrev pub is_one : ℤ → Range → Bool
is_one d r = int_eq r.least r.greatest && int_eq d (neg_ℤ r.least)

-- the variable's numbers are known to be so
abbrev pub is_above : List Range → VarId → ℤ → Bool
is_above ranges v least = is_known ranges v (is_from least)

abbrev pub is_below : List Range → VarId → ℤ → Bool
is_below ranges v greatest = is_known ranges v (is_to greatest)

abbrev pub is_near : List Range → VarId → Bool
is_near ranges v = is_known ranges v are_near

abbrev pub is_listed : List Range → VarId → ℤ → Bool
is_listed ranges v d = is_known ranges v (is_one d)

-- it has numbers, or is missing
abbrev pub is_numeric : List Range → VarId → Bool
is_numeric ranges v = is_known ranges v (λ r. true)

-- a least or a greatest value that no such number moves
abbrev pub is_idle_least : List Range → VarId → State → Bool
is_idle_least ranges v (Least least) = is_above ranges v least
is_idle_least ranges v _ = false

abbrev pub is_idle_greatest : List Range → VarId → State → Bool
is_idle_greatest ranges v (Greatest greatest) = is_below ranges v greatest
is_idle_greatest ranges v _ = false

-- A coordinate of a stretch with near ends: the number of the variable that drives it, from the first to the last, or that of one that has
-- no other.
abbrev pub is_driven : List Range → VarId → ℤ → ℤ → VarId → ℤ → ℤ → Bool
is_driven ranges driver first last v a b =
    (is_numeric ranges v && (is_near_number a && is_near_number b))
    && ((v.0 == driver.0 && (int_eq a first && int_eq b last)) || (int_eq a b && (is_above ranges v a && is_below ranges v a)))

-- a stretch of which each coordinate is so, within which the driving variable's numbers are
abbrev pub is_driven_stretch : List Range → VarId → ℤ → ℤ → VarId → VarId → VarId → State → Bool
is_driven_stretch ranges driver first last u v w (Span x1 y1 z1 x2 y2 z2) =
    is_driven ranges driver first last u x1 x2
    && (is_driven ranges driver first last v y1 y2 && (is_driven ranges driver first last w z1 z2 && (is_above ranges driver first && is_below ranges driver last)))
is_driven_stretch ranges driver first last u v w _ = false

-- the plane of the points whose first two coordinates are one
abbrev pub is_diagonal : ℤ → ℤ → ℤ → ℤ → Bool
is_diagonal a b c d = int_eq a (pos 1) && (int_eq b (negsuc 0) && (int_eq c (pos 0) && int_eq d (pos 0)))

-- the numbers of three variables are known to be near
abbrev pub are_near_each : List Range → VarId → VarId → VarId → Bool
are_near_each ranges u v w = is_near ranges u && (is_near ranges v && is_near ranges w)

-- the plane says of its first coordinate alone which number it is
abbrev pub is_axis : ℤ → ℤ → ℤ → Bool
is_axis a b c = int_eq a (pos 1) && (int_eq b (pos 0) && int_eq c (pos 0))

abbrev pub is_fixed : List Range → VarId → ℤ → ℤ → ℤ → ℤ → Bool
is_fixed ranges u a b c d = is_axis a b c && is_listed ranges u d

abbrev pub are_fixed : List Range → VarId → VarId → VarId → ℤ → ℤ → ℤ → ℤ → Bool
are_fixed ranges u v w a b c d = is_fixed ranges u a b c d || (is_fixed ranges v b c a d || is_fixed ranges w c a b d)

-- ---- variables whose numbers rise
-- the number is greater than the last one, if there is one
abbrev pub is_over : Option ℤ → ℤ → Bool
is_over None x = true
is_over (Some last) x = int_lt last x

-- the value is such a number, or missing
abbrev pub rises : Option ℤ → Value → Bool
rises last (value.Int x) = is_over last x
rises last value.Missing = true
rises last _ = false

-- the last number, with a value more
abbrev pub last_with : Option ℤ → Value → Option ℤ
last_with last (value.Int x) = Some x
last_with last _ = last

-- each of the variables has a greater number than the one before it that has one, or is missing
abbrev pub are_rising : List Value → Option ℤ → List VarId → Bool
are_rising sample last [] = true
are_rising sample last (v ∷ vars) = rises last (value_in sample v) && are_rising sample (last_with last (value_in sample v)) vars

-- the first variable is listed before the second
abbrev pub are_in_order : List VarId → VarId → VarId → Bool
are_in_order [] u v = false
are_in_order (n ∷ vars) u v = (n.0 == u.0 && is_among vars v) || are_in_order vars u v

-- ---- variables that compare as they did
-- a number and a value
abbrev pub compares_first : ℕ → ℤ → Value → Bool
compares_first n x (value.Int y) = compares n x y
compares_first n x value.Missing = true
compares_first n x _ = false

-- two values
abbrev pub compares_values : ℕ → Value → Value → Bool
compares_values n (value.Int x) second = compares_first n x second
compares_values n value.Missing second = true
compares_values n _ second = false

abbrev pub is_so : List Value → Compared → Bool
is_so sample c = compares_values c.row.0 (value_in sample c.first) (value_in sample c.second)

abbrev pub are_so : List Value → List Compared → Bool
are_so sample compared = list_all (is_so sample) compared

-- one of them is the comparison of this row of these two
abbrev pub is_compared : List Compared → ℕ → VarId → VarId → Bool
is_compared compared n u v = list_any (λ (c : Compared). c.row.0 == n && (c.first.0 == u.0 && c.second.0 == v.0)) compared

-- ---- idle slots
-- the plane says no more than that a variable, which stands at two roles, is itself
abbrev pub are_same : VarId → VarId → VarId → ℤ → ℤ → ℤ → ℤ → Bool
are_same u v w a b c d = (u.0 == v.0 && is_diagonal a b c d) || (v.0 == w.0 && is_diagonal b c a d)

-- or that one of the variables has the number that it had
abbrev pub is_idle_over : List Range → VarId → VarId → VarId → State → Bool
is_idle_over ranges u v w (Plane a b c d) = are_same u v w a b c d || are_fixed ranges u v w a b c d
is_idle_over ranges u v w _ = false

-- the same of a line through the numbers of two variables: the plane over the second one twice, of which the third coordinate is free
abbrev pub is_idle_straight : List Range → VarId → VarId → State → Bool
is_idle_straight ranges u v (Straight a b c) = are_same u v v a b (pos 0) c || are_fixed ranges u v v a b (pos 0) c
is_idle_straight ranges u v _ = false

-- a number is equal to itself, and at most itself
abbrev pub is_own : ℕ → VarId → VarId → Bool
is_own n u v = u.0 == v.0 && (n == number.eq_int || n == number.le)

-- a comparison that needn't be listed
abbrev pub is_told : List Range → List VarId → ℕ → VarId → VarId → Bool
is_told ranges rising n u v = (is_own n u v && is_numeric ranges u) || (n == number.lt && are_in_order rising u v)

-- all facts are true of the sample
abbrev pub meets : Watch → List Value → Bool
meets watch sample = are_within sample watch.ranges.items && (are_rising sample None watch.rising.items && are_so sample watch.compared.items)

-- no such sample changes the slot
abbrev pub IsIdle : Watch → Slot → Type 0
IsIdle watch slot = (sample : List Value) → meets watch sample ≡ true → with_sample slot.row slot.leaders sample slot.state ≡ slot.state

-- ---- places that are passed over
-- up to which place the slots from this one on are passed over
abbrev pub skip_in : List ℕ → ℕ → ℕ
skip_in skips k = slice_index_or skips k 0

-- the later of two places
abbrev pub later : ℕ → ℕ → ℕ
later next skip = if nat_lt skip next then next else skip

-- the slot at this place is passed over
abbrev pub is_passed : List ℕ → ℕ → Bool
is_passed skips k = nat_lt k (skip_in skips k)

-- Slots that are passed over are idle. Each of them is noted so itself, so that the notes outlast changes of others.
pub record AreSkips (watch : Watch) (slots : List Slot) (skips : List ℕ) : Type 0 where
  pub noted : (k j : ℕ) → k ≤ j → j < skip_in skips k → j < skip_in skips j
  pub idle : (j : ℕ) → j < skip_in skips j → IsIdle watch (slot_in slots j)

-- a note for each slot
abbrev pub AreNotes : Watch → List Slot → List ℕ → Type 0
AreNotes watch slots skips = (length skips ≡ length slots) × AreSkips watch slots skips

-- the sample changes none of those that are passed over
abbrev pub PassesStill : List Value → List Slot → List ℕ → Type 0
PassesStill sample slots skips = (k j : ℕ) → k ≤ j → j < skip_in skips k
    → with_sample (slot_in slots j).row (slot_in slots j).leaders sample (slot_in slots j).state ≡ (slot_in slots j).state
