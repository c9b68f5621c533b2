-- Which states are proper, as a test.
use Rattle.std.specs.Prelude.{◌&&◌, ◌||◌, ◌==◌, ◌^◌, ℕ, ℤ, pos, Bool, true, false, List, length, nat_le, nat_lt, int_lt, unsigned_abs}
use Rattle.std.specs.List.{list_all}
use Rattle.std.specs.Ordering.{int_cmp, int_eq, nat_cmp}
use Rattle.std.specs.Cmp.Lexicographic.{slice_cmp}
use Rattle.std.specs.declared.cmp.Ordering.{Ordering}
use Rattle.dk_arith.specs.Directions.{gcd_of_three}
use Rattle.dk_arith.specs.Gcd.{gcd}
use Rattle.dk_base.specs.Values.Items.{is_text}
use Rattle.dk_forms.specs.Plane.{is_before}
use Rattle.dk_forms.specs.declared.states.State.{State}
use Rattle.dk_forms.specs.declared.states.State.TheVariants as state
use Rattle.dk_template.specs.Ascending.{ascends}
use Rattle.dk_template.specs.declared.templates.StateForm.{StateForm}
use Rattle.dk_template.specs.declared.templates.StateForm.TheVariants.{Plain, Least, Greatest, Ints, Truth, Code, Texts, Modulus, Line, Plane, Offset}

-- one to three values, distinct and ascending
abbrev pub is_few : {K : Type 0} → (K → K → Ordering) → List K → Bool
is_few R xs = nat_lt 0 (length xs) && (nat_le (length xs) 3 && ascends R xs)

-- at most so far from 0
abbrev pub is_within : ℕ → ℤ → Bool
is_within n z = nat_le (unsigned_abs z) n

abbrev pub is_positive : ℤ → Bool
is_positive z = int_lt (pos 0) z

abbrev pub is_zero : ℤ → Bool
is_zero z = int_eq z (pos 0)

-- in lowest terms, the first number that isn't 0 positive
abbrev pub is_normal : ℤ → ℤ → Bool
is_normal a b = gcd (unsigned_abs a) (unsigned_abs b) == 1 && (is_positive a || (is_zero a && is_positive b))

unfoldable pub is_normal3 : ℤ → ℤ → ℤ → Bool
is_normal3 a b c = gcd_of_three a b c == 1 && (is_positive a || (is_zero a && (is_positive b || (is_zero b && is_positive c))))

abbrev pub is_spot : ℤ → ℤ → Bool
is_spot x y = is_within (2 ^ 62) x && is_within (2 ^ 62) y

abbrev pub is_straight : ℤ → ℤ → ℤ → Bool
is_straight a b c = is_normal a b && (is_within (2 ^ 63) a && (is_within (2 ^ 63) b && is_within (2 ^ 126) c))

unfoldable pub is_point : ℤ × ℤ × ℤ → Bool
is_point p = is_within (2 ^ 30) p.0 && (is_within (2 ^ 30) p.1 && is_within (2 ^ 30) p.2)

abbrev pub is_span : ℤ × ℤ × ℤ → ℤ × ℤ × ℤ → Bool
is_span p q = is_point p && (is_point q && is_before p q)

unfoldable pub is_bounded : ℤ → ℤ → ℤ → ℤ → Bool
is_bounded a b c d = is_within (2 ^ 63) a && (is_within (2 ^ 63) b && (is_within (2 ^ 63) c && is_within (2 ^ 95) d))

abbrev pub is_plane : ℤ → ℤ → ℤ → ℤ → Bool
is_plane a b c d = is_normal3 a b c && is_bounded a b c d

-- no values, or nothing that the row could say
abbrev pub is_unsaid : State → Bool
is_unsaid state.Empty = true
is_unsaid state.Broken = true
is_unsaid _ = false

abbrev pub is_proper : StateForm → State → Bool
is_proper Plain state.Holds = true
is_proper Least (state.Least k) = true
is_proper Greatest (state.Greatest k) = true
is_proper Ints (state.Ints values) = is_few int_cmp values
is_proper Truth (state.Truth b) = true
is_proper Code (state.Code h) = true
is_proper Texts (state.Texts values) = is_few (slice_cmp nat_cmp) values && list_all is_text values
is_proper Modulus (state.One v) = true
is_proper Modulus (state.Modulus m r) = nat_le 2 m && nat_lt r m
is_proper Line (state.Spot x y) = is_spot x y
is_proper Line (state.Straight a b c) = is_straight a b c
is_proper Plane (state.Span x1 y1 z1 x2 y2 z2) = is_span (x1, y1, z1) (x2, y2, z2)
is_proper Plane (state.Plane a b c d) = is_plane a b c d
is_proper Offset (state.Offset k) = nat_lt (unsigned_abs k) (2 ^ 64)
is_proper form s = is_unsaid s
