-- Small examples, computed from the definitions.
use Rattle.std.specs.Prelude.{◌≡◌, ◌^◌, ◌-◌, ℕ, ℤ, pos, negsuc, neg_ℤ, List, [], ◌∷◌, codes, refl}
use Rattle.dk_arith.specs.Gcd.{gcd}
use Rattle.dk_arith.specs.Directions.{divisor}
use Rattle.dk_base.specs.declared.values.Value.{Value}
use Rattle.dk_base.specs.declared.values.Value.TheVariants as value
use Rattle.dk_forms.specs.Known.Distinct.{put}
use Rattle.dk_forms.specs.Plane.Line.{through}
use Rattle.dk_forms.specs.Modulus.{class, remainder}
use Rattle.dk_forms.specs.Plane.{plane_from, plane_through}
use Rattle.dk_forms.specs.declared.states.State.{State}
use Rattle.dk_forms.specs.declared.states.State.TheVariants.{Empty, Broken, Holds, Least, Greatest, Ints, Modulus, Spot, Straight, Span, Plane, Offset}
use Rattle.dk_meanings.specs.Meanings.{meanings, state_of}

-- the state of a row, by its number
abbrev row : ℕ → List (List Value) → State
row n tuples = state_of (record { 0 = n }) tuples

abbrev i1 : ℤ → List Value
i1 x = value.Int x ∷ []

abbrev i2 : ℤ → ℤ → List Value
i2 x y = value.Int x ∷ value.Int y ∷ []

abbrev i3 : ℤ → ℤ → ℤ → List Value
i3 z x y = value.Int z ∷ value.Int x ∷ value.Int y ∷ []

abbrev is : List ℤ → Value
is s = value.IntSeq s

abbrev minus : ℕ → ℤ
minus n = neg_ℤ (pos n)

-- no tuples
nothing_known : row 26 [] ≡ Empty
unfolding state_of meanings
nothing_known = refl

-- the distinct values, the least and the greatest
values : row 1 (i1 (pos 3) ∷ i1 (pos 1) ∷ i1 (pos 3) ∷ []) ≡ Ints (pos 1 ∷ pos 3 ∷ [])
unfolding state_of meanings put
values = refl

least_value : row 2 (i1 (pos 3) ∷ i1 (minus 4) ∷ i1 (pos 9) ∷ []) ≡ Least (minus 4)
unfolding state_of meanings
least_value = refl

greatest_value : row 3 (i1 (pos 3) ∷ i1 (pos 9) ∷ i1 (minus 4) ∷ []) ≡ Greatest (pos 9)
unfolding state_of meanings
greatest_value = refl

-- 3, 7 and 19 leave 3 by 4
modulus : row 5 (i1 (pos 3) ∷ i1 (pos 7) ∷ i1 (pos 19) ∷ []) ≡ Modulus 4 3
unfolding state_of meanings class remainder gcd
modulus = refl

-- a text in quotes isn't `null`
null_text : row 10 ((value.Str (codes "\"null\"") ∷ []) ∷ []) ≡ Holds
unfolding state_of meanings
null_text = refl

null_word : row 10 ((value.Str (codes "null") ∷ []) ∷ []) ≡ Broken
unfolding state_of meanings
null_word = refl

-- the line through two points; a point at the limit, and one beyond it
line : row 15 (i2 (pos 2) (minus 2) ∷ i2 (pos 4) (pos 12) ∷ []) ≡ Straight (pos 7) (minus 1) (minus 16)
unfolding state_of meanings through divisor gcd
line = refl

at_limit : row 15 (i2 (pos (2 ^ 62)) (minus (2 ^ 62 - 1)) ∷ []) ≡ Spot (pos (2 ^ 62)) (minus (2 ^ 62 - 1))
unfolding state_of meanings
at_limit = refl

too_far : row 15 (i2 (pos 0) (negsuc (2 ^ 62)) ∷ []) ≡ Broken
unfolding state_of meanings
too_far = refl

-- 0 divides nothing, and everything else divides 0
zero_divides : row 16 (i2 (pos 0) (pos 0) ∷ []) ≡ Broken
unfolding state_of meanings
zero_divides = refl

zero_is_divided : row 16 (i2 (pos 0) (minus 3) ∷ i2 (minus 6) (pos 3) ∷ []) ≡ Holds
unfolding state_of meanings
zero_is_divided = refl

-- 64 bits would wrap
product_wraps : row 26 (i3 (minus 2) (pos (2 ^ 63 - 1)) (pos 2) ∷ []) ≡ Broken
unfolding state_of meanings
product_wraps = refl

-- quotients and remainders are cut towards 0, and none is by 0
quotients : row 29 (i3 (minus 3) (minus 7) (pos 2) ∷ i3 (minus 3) (pos 7) (minus 2) ∷ []) ≡ Holds
unfolding state_of meanings
quotients = refl

quotient_by_zero : row 29 (i3 (pos 0) (pos 1) (pos 0) ∷ []) ≡ Broken
unfolding state_of meanings
quotient_by_zero = refl

remainders : row 30 (i3 (minus 1) (minus 7) (pos 2) ∷ i3 (pos 1) (pos 7) (minus 2) ∷ []) ≡ Holds
unfolding state_of meanings
remainders = refl

ands : row 31 (i3 (pos 8) (pos 12) (pos 10) ∷ i3 (pos 5) (minus 1) (pos 5) ∷ []) ≡ Holds
unfolding state_of meanings
ands = refl

gcds : row 34 (i3 (pos 2) (minus 4) (pos 6) ∷ i3 (pos 0) (pos 0) (pos 0) ∷ []) ≡ Holds
unfolding state_of meanings gcd
gcds = refl

negative_gcd : row 34 (i3 (minus 2) (pos 4) (pos 6) ∷ []) ≡ Broken
unfolding state_of meanings gcd
negative_gcd = refl

-- a sequence without elements gives no value
no_elements : row 36 ((is [] ∷ []) ∷ []) ≡ Empty
unfolding state_of meanings
no_elements = refl

-- the second element isn't less than the third
ascending : row 39 ((is (pos 1 ∷ pos 2 ∷ pos 2 ∷ []) ∷ []) ∷ []) ≡ Broken
unfolding state_of meanings
ascending = refl

not_descending : row 40 ((is (pos 1 ∷ pos 2 ∷ pos 2 ∷ []) ∷ []) ∷ []) ≡ Holds
unfolding state_of meanings
not_descending = refl

element : row 49 ((value.Int (pos 2) ∷ is (pos 1 ∷ pos 2 ∷ []) ∷ []) ∷ []) ≡ Holds
unfolding state_of meanings
element = refl

lengths_differ : row 61 ((is (pos 1 ∷ []) ∷ is (pos 2 ∷ pos 3 ∷ []) ∷ []) ∷ []) ≡ Broken
unfolding state_of meanings
lengths_differ = refl

subset : row 63 ((is (pos 2 ∷ pos 1 ∷ pos 2 ∷ []) ∷ is (pos 1 ∷ pos 2 ∷ pos 3 ∷ []) ∷ []) ∷ []) ≡ Holds
unfolding state_of meanings
subset = refl

backwards : row 66 ((is (pos 1 ∷ pos 2 ∷ []) ∷ is (pos 2 ∷ pos 1 ∷ []) ∷ []) ∷ []) ≡ Holds
unfolding state_of meanings
backwards = refl

plane : row 67 (i3 (pos 1) (pos 1) (pos 6) ∷ i3 (pos 2) (pos 1) (pos 8) ∷ i3 (pos 1) (pos 2) (pos 9) ∷ []) ≡ Plane (pos 2) (pos 3) (minus 1) (pos 1)
unfolding state_of meanings plane_from plane_through divisor gcd
plane = refl

span : row 67 (i3 (pos 2) (pos 1) (pos 8) ∷ i3 (pos 1) (pos 1) (pos 6) ∷ []) ≡ Span (pos 1) (pos 1) (pos 6) (pos 2) (pos 1) (pos 8)
unfolding state_of meanings plane_from
span = refl

offset : row 68 ((is (pos 1 ∷ pos 2 ∷ pos 3 ∷ []) ∷ is (pos 4 ∷ pos 5 ∷ pos 6 ∷ []) ∷ []) ∷ (is [] ∷ is [] ∷ []) ∷ []) ≡ Offset (pos 3)
unfolding state_of meanings
offset = refl

offset_broken : row 68 ((is (pos 1 ∷ pos 2 ∷ []) ∷ is (pos 4 ∷ []) ∷ []) ∷ []) ≡ Broken
unfolding state_of meanings
offset_broken = refl
