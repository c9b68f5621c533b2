-- Each rule of the table is sound for one tuple.
use Rattle.std.specs.Prelude.{◌≡◌, ℕ, ℤ, int_le, int_lt, true, List, [], ◌∷◌, map, refl}
use Rattle.std.specs.List.{AllByRecursion}
use Rattle.std.specs.Ordering.{int_eq}
use Rattle.dk_base.specs.Numbers.{fits_i64}
use Rattle.dk_base.specs.Values.Spelling.{IsWritten}
use Rattle.dk_base.specs.Values.Tuples.{hashes_of, int_of, ints_of, texts_of, value_at}
use Rattle.dk_base.specs.declared.values.Value.{Value}
use Rattle.dk_base.specs.declared.values.Value.TheVariants as value
use Rattle.dk_meanings.specs.Meanings.{meanings, relation_of}
use Rattle.dk_meanings.specs.Relations.{int_ge, int_gt}
use Rattle.dk_suppress.proofs.BitRules.{and_of_equal, and_of_ones, and_of_zero, and_with_ones, and_with_zero, gcd_of_divisor, gcd_of_one, gcd_with_divisor, gcd_with_one, or_of_equal, or_of_zero, or_with_zero, xor_of_equal, xor_of_zero, xor_with_zero}
use Rattle.dk_suppress.proofs.NumberRules.{above_differs, below_differs, below_or_equal, difference_of_sum, equal_or_above, equal_or_below, first_is_maximum, first_is_minimum, from_one, multiple_of_itself, multiple_of_minus_one, multiple_of_one, product_of_one, product_of_zero, product_with_one, product_with_zero, quotient_by_itself, quotient_by_one, quotient_of_smaller, quotient_of_zero, remainder_of_multiple, remainder_of_smaller, second_is_maximum, second_is_minimum, square_of_small, sum_of_zero, sum_with_zero, to_minus_one, zero_is_multiple}
use Rattle.dk_suppress.proofs.Saying.{Says}
use Rattle.dk_suppress.proofs.SequenceRules.{codes_subset, elements_from_one, elements_to_minus_one, numbers_reverse, numbers_subset, pairwise_weaker, relate_weaker, reversed_subset, sorted_weaker, texts_subset}
use Rattle.dk_suppress.specs.Rules.{Rule, rules}
use Rattle.dk_template.specs.Premises.{roles_read}
use Rattle.dk_template.specs.Templates.{rows}
use Rattle.dk_template.specs.declared.answers.Premise.{Premise}

-- the values at some roles
abbrev pub part : List ℕ → List Value → List Value
part roles tuple = map (value_at tuple) roles

-- each value of a tuple is one that some text writes
abbrev pub AreWritten : List Value → Type 0
AreWritten tuple = (role : ℕ) → IsWritten (value_at tuple role)

-- G follows from what the premises say of a tuple of the conclusion
abbrev pub Follows : List Premise → List Value → Type 0 → Type 0
Follows [] tuple G = G
Follows (p ∷ ps) tuple G = Says p (part (roles_read p) tuple) → Follows ps tuple G

-- what the premises of a rule say of a tuple gives what the conclusion says of it
abbrev pub IsSound : Rule → Type 0
IsSound r = (tuple : List Value) → AreWritten tuple → Follows r.1 tuple (relation_of r.0 tuple ≡ true)

-- the number and the sequence at a role
abbrev n : List Value → ℕ → ℤ
n tuple role = int_of (value_at tuple role)

abbrev s : List Value → ℕ → List ℤ
s tuple role = ints_of (value_at tuple role)

greater_or_equal : (x y : ℤ) → int_gt x y ≡ true → int_ge x y ≡ true
greater_or_equal x y h = below_or_equal y x h

number_fits : (v : Value) → IsWritten v → fits_i64 (int_of v) ≡ true
number_fits (value.Int z) w = w
number_fits value.Missing w = refl
number_fits (value.Bool b) w = refl
number_fits (value.Hash h) w = refl
number_fits (value.Str t) w = refl
number_fits (value.BoolSeq bs) w = refl
number_fits (value.IntSeq zs) w = refl
number_fits (value.HashSeq hs) w = refl
number_fits (value.StrSeq ts) w = refl

fits_at : (tuple : List Value) → AreWritten tuple → (role : ℕ) → fits_i64 (n tuple role) ≡ true
fits_at tuple w role = number_fits (value_at tuple role) (w role)

-- a fact, and those of the rules behind it
infixr 20 ◌⨟◌
◌⨟◌ : {P Q : Type 0} → P → Q → P × Q
p ⨟ q = (p, q)

-- rule by rule, in the order of the table
pub rules_sound : AllByRecursion IsSound rules
unfolding rules rows meanings relation_of
rules_sound =
    (λ t w a. from_one (n t 0) a.0)  -- x != 0: x >= 1
    ⨟ (λ t w a. to_minus_one (n t 0) a.0)  -- x != 0: x <= -1
    ⨟ (λ t w a. below_differs (n t 0) (n t 1) a)  -- x != y: x < y
    ⨟ (λ t w a. above_differs (n t 0) (n t 1) a)  -- x != y: y < x
    ⨟ (λ t w a. below_or_equal (n t 0) (n t 1) a)  -- x <= y: x < y
    ⨟ (λ t w a. equal_or_below (n t 0) (n t 1) a)  -- x <= y: x == y
    ⨟ (λ t w a b. multiple_of_itself (n t 0) (n t 1) a b)  -- x % y == 0: x == y and y != 0
    ⨟ (λ t w a. multiple_of_one (n t 0) (n t 1) a.0)  -- x % y == 0: y is only 1
    ⨟ (λ t w a. multiple_of_minus_one (n t 0) (n t 1) a.0)  -- x % y == 0: y is only -1
    ⨟ (λ t w a b. zero_is_multiple (n t 0) (n t 1) a.0 b)  -- x % y == 0: x is only 0 and y != 0
    ⨟ (λ t w a b c. square_of_small (n t 0) (n t 1) a b.0 c.0)  -- x == y * y: x == y and x >= 0 and x <= 1
    ⨟ (λ t w a b. sum_with_zero (n t 0) (n t 1) (n t 2) a b.0)  -- z == x + y: z == x and y is only 0
    ⨟ (λ t w a b. sum_of_zero (n t 0) (n t 1) (n t 2) a b.0)  -- z == x + y: z == y and x is only 0
    ⨟ (λ t w a. difference_of_sum (n t 0) (n t 1) (n t 2) a)  -- z == x - y: x == z + y
    ⨟ (λ t w a b. product_with_one (n t 0) (n t 1) (n t 2) a b.0)  -- z == x * y: z == x and y is only 1
    ⨟ (λ t w a b. product_of_one (n t 0) (n t 1) (n t 2) a b.0)  -- z == x * y: z == y and x is only 1
    ⨟ (λ t w a b. product_of_zero (n t 0) (n t 1) (n t 2) a.0 b.0)  -- z == x * y: z is only 0 and x is only 0
    ⨟ (λ t w a b. product_with_zero (n t 0) (n t 1) (n t 2) a.0 b.0)  -- z == x * y: z is only 0 and y is only 0
    ⨟ (λ t w a b. first_is_minimum (n t 0) (n t 1) (n t 2) a b)  -- z == min(x, y): z == x and x <= y
    ⨟ (λ t w a b. second_is_minimum (n t 0) (n t 1) (n t 2) a b)  -- z == min(x, y): z == y and y <= x
    ⨟ (λ t w a b. first_is_maximum (n t 0) (n t 1) (n t 2) a b)  -- z == max(x, y): z == x and y <= x
    ⨟ (λ t w a b. second_is_maximum (n t 0) (n t 1) (n t 2) a b)  -- z == max(x, y): z == y and x <= y
    ⨟ (λ t w a b. quotient_by_one (n t 0) (n t 1) (n t 2) a b.0)  -- z == x / y: z == x and y is only 1
    ⨟ (λ t w a b c. quotient_of_zero (n t 0) (n t 1) (n t 2) a.0 b.0 c)  -- z == x / y: z is only 0 and x is only 0 and y != 0
    ⨟ (λ t w a b c. quotient_by_itself (n t 0) (n t 1) (n t 2) a.0 b c)  -- z == x / y: z is only 1 and x == y and y != 0
    ⨟ (λ t w a b c. quotient_of_smaller (n t 0) (n t 1) (n t 2) a.0 b.0 c)  -- z == x / y: z is only 0 and x >= 0 and x < y
    ⨟ (λ t w a b. remainder_of_multiple (n t 0) (n t 1) (n t 2) a.0 b)  -- z == x % y: z is only 0 and x % y == 0
    ⨟ (λ t w a b c. remainder_of_smaller (n t 0) (n t 1) (n t 2) a b.0 c)  -- z == x % y: z == x and x >= 0 and x < y
    ⨟ (λ t w a b. and_of_equal (n t 0) (n t 1) (n t 2) a b)  -- z == x & y: z == x and x == y
    ⨟ (λ t w a b. and_of_zero (n t 0) (n t 1) (n t 2) a.0 b.0)  -- z == x & y: z is only 0 and x is only 0
    ⨟ (λ t w a b. and_with_zero (n t 0) (n t 1) (n t 2) a.0 b.0)  -- z == x & y: z is only 0 and y is only 0
    ⨟ (λ t w a b. and_with_ones (n t 0) (n t 1) (n t 2) (fits_at t w 1) a b.0)  -- z == x & y: z == x and y is only -1
    ⨟ (λ t w a b. and_of_ones (n t 0) (n t 1) (n t 2) (fits_at t w 2) a b.0)  -- z == x & y: z == y and x is only -1
    ⨟ (λ t w a b. or_of_equal (n t 0) (n t 1) (n t 2) a b)  -- z == x | y: z == x and x == y
    ⨟ (λ t w a b. or_with_zero (n t 0) (n t 1) (n t 2) a b.0)  -- z == x | y: z == x and y is only 0
    ⨟ (λ t w a b. or_of_zero (n t 0) (n t 1) (n t 2) a b.0)  -- z == x | y: z == y and x is only 0
    ⨟ (λ t w a b. xor_with_zero (n t 0) (n t 1) (n t 2) a b.0)  -- z == x ^ y: z == x and y is only 0
    ⨟ (λ t w a b. xor_of_zero (n t 0) (n t 1) (n t 2) a b.0)  -- z == x ^ y: z == y and x is only 0
    ⨟ (λ t w a b. xor_of_equal (n t 0) (n t 1) (n t 2) a.0 b)  -- z == x ^ y: z is only 0 and x == y
    ⨟ (λ t w a b. gcd_of_one (n t 0) (n t 1) (n t 2) a.0 b.0)  -- z == gcd(x, y): z is only 1 and x is only 1
    ⨟ (λ t w a b. gcd_with_one (n t 0) (n t 1) (n t 2) a.0 b.0)  -- z == gcd(x, y): z is only 1 and y is only 1
    ⨟ (λ t w a b c. gcd_of_divisor (n t 0) (n t 1) (n t 2) a b.0 c)  -- z == gcd(x, y): z == x and x >= 1 and y % x == 0
    ⨟ (λ t w a b c. gcd_with_divisor (n t 0) (n t 1) (n t 2) a b.0 c)  -- z == gcd(x, y): z == y and y >= 1 and x % y == 0
    ⨟ (λ t w a. elements_from_one (s t 0) a)  -- s elements != 0: s elements >= 1
    ⨟ (λ t w a. elements_to_minus_one (s t 0) a)  -- s elements != 0: s elements <= -1
    ⨟ (λ t w a. sorted_weaker int_lt int_le below_or_equal (s t 0) a)  -- s sorted by <=: s sorted by <
    ⨟ (λ t w a. sorted_weaker int_eq int_le equal_or_below (s t 0) a)  -- s sorted by <=: s elements are equal
    ⨟ (λ t w a. sorted_weaker int_gt int_ge greater_or_equal (s t 0) a)  -- s sorted by >=: s sorted by >
    ⨟ (λ t w a. sorted_weaker int_eq int_ge equal_or_above (s t 0) a)  -- s sorted by >=: s elements are equal
    ⨟ (λ t w a. relate_weaker int_lt int_le below_or_equal (s t 0) (n t 1) a)  -- s elements <= x: s elements < x
    ⨟ (λ t w a. relate_weaker int_eq int_le equal_or_below (s t 0) (n t 1) a)  -- s elements <= x: s elements == x
    ⨟ (λ t w a. relate_weaker int_gt int_ge greater_or_equal (s t 0) (n t 1) a)  -- s elements >= x: s elements > x
    ⨟ (λ t w a. relate_weaker int_eq int_ge equal_or_above (s t 0) (n t 1) a)  -- s elements >= x: s elements == x
    ⨟ (λ t w a. pairwise_weaker int_lt int_le below_or_equal (s t 0) (s t 1) a)  -- s <= t, pair by pair: s < t, pair by pair
    ⨟ (λ t w a. pairwise_weaker int_eq int_le equal_or_below (s t 0) (s t 1) a)  -- s <= t, pair by pair: s == t
    ⨟ (λ t w a. numbers_subset (s t 0) (s t 1) a)  -- s is a subset of t (numbers): s == t
    ⨟ (λ t w a. reversed_subset (s t 0) (s t 1) a)  -- s is a subset of t (numbers): s is the reverse of t
    ⨟ (λ t w a. codes_subset (hashes_of (value_at t 0)) (hashes_of (value_at t 1)) a)  -- s is a subset of t (hash codes): s == t
    ⨟ (λ t w a. texts_subset (texts_of (value_at t 0)) (texts_of (value_at t 1)) a)  -- s is a subset of t (strings): s == t
    ⨟ (λ t w a b. numbers_reverse (s t 0) (s t 1) a b)  -- s is the reverse of t: s == t and s elements are equal
    ⨟ tt
