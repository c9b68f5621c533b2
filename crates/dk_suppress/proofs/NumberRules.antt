-- What the premises of rules over numbers say of one tuple gives what their conclusions say of it: bounds, sums and products.
use Rattle.std.specs.Prelude.{◌≡◌, ◌<◌, ◌==◌, ◌%◌, zero, suc, ℤ, pos, negsuc, ◌+ℤ◌, ◌-ℤ◌, ◌*ℤ◌, neg_ℤ, int_div, int_le, int_lt, int_rem, unsigned_abs, true, not, refl}
use Rattle.std.specs.Ordering.{int_eq}
use Rattle.std.proofs.Common.{arith, ap, subst, sym, ◌∙◌}
use Rattle.std.proofs.lemmas.Bool.{and_from, and_parts, eq-eqb, eqb-true, false≢true}
use Rattle.std.proofs.lemmas.Bool.Decides.{Decides-int_eq}
use Rattle.std.proofs.lemmas.Int.{clamps, ints}
use Rattle.std.proofs.Math.Nat.{div-eq_of_lt, div-one, div_self, mod-eq_of_lt, mod-one, mod_self, zero-div, zero-mod}
use Rattle.dk_meanings.specs.Relations.{is_difference, is_maximum, is_minimum, is_multiple, is_nonzero, is_product, is_quotient, is_remainder, is_square, is_sum}

pub equal : (x y : ℤ) → int_eq x y ≡ true → x ≡ y
equal x y h = (Decides-int_eq x y).0 h

pub same : (x y : ℤ) → x ≡ y → int_eq x y ≡ true
same x y e = (Decides-int_eq x y).1 e

-- ---- order
pub from_one : (x : ℤ) → int_le (pos 1) x ≡ true → is_nonzero x ≡ true
from_one x h = grind (arith, ints)

pub to_minus_one : (x : ℤ) → int_le x (negsuc 0) ≡ true → is_nonzero x ≡ true
to_minus_one x h = grind (arith, ints)

pub below_differs : (x y : ℤ) → int_lt x y ≡ true → not (int_eq x y) ≡ true
below_differs x y h = grind (arith, ints)

pub above_differs : (x y : ℤ) → int_lt y x ≡ true → not (int_eq x y) ≡ true
above_differs x y h = grind (arith, ints)

pub below_or_equal : (x y : ℤ) → int_lt x y ≡ true → int_le x y ≡ true
below_or_equal x y h = grind (arith, ints)

pub equal_or_below : (x y : ℤ) → int_eq x y ≡ true → int_le x y ≡ true
equal_or_below x y h = grind (arith, ints)

pub equal_or_above : (x y : ℤ) → int_eq x y ≡ true → int_le y x ≡ true
equal_or_above x y h = grind (arith, ints)

-- ---- divisors
multiple : (x y : ℤ) → is_nonzero y ≡ true → unsigned_abs x % unsigned_abs y ≡ 0 → is_multiple x y ≡ true
multiple x y some e = and_from (is_nonzero y) (unsigned_abs x % unsigned_abs y == 0) some (eq-eqb (unsigned_abs x % unsigned_abs y) 0 e)

pub multiple_of_itself : (x y : ℤ) → int_eq x y ≡ true → is_nonzero y ≡ true → is_multiple x y ≡ true
multiple_of_itself x y h some = multiple x y some (subst (λ z. unsigned_abs z % unsigned_abs y ≡ 0) (sym (equal x y h)) (mod_self (unsigned_abs y)))

pub multiple_of_one : (x y : ℤ) → y ≡ pos 1 → is_multiple x y ≡ true
multiple_of_one x y e = subst (λ z. is_multiple x z ≡ true) (sym e) (multiple x (pos 1) refl (mod-one (unsigned_abs x)))

pub multiple_of_minus_one : (x y : ℤ) → y ≡ negsuc 0 → is_multiple x y ≡ true
multiple_of_minus_one x y e = subst (λ z. is_multiple x z ≡ true) (sym e) (multiple x (negsuc 0) refl (mod-one (unsigned_abs x)))

pub zero_is_multiple : (x y : ℤ) → x ≡ pos 0 → is_nonzero y ≡ true → is_multiple x y ≡ true
zero_is_multiple x y e some = multiple x y some (subst (λ z. unsigned_abs z % unsigned_abs y ≡ 0) (sym e) (zero-mod (unsigned_abs y)))

-- ---- sums, products, the smaller and the greater
pub square_of_small : (x y : ℤ) → int_eq x y ≡ true → int_le (pos 0) x ≡ true → int_le x (pos 1) ≡ true → is_square x y ≡ true
square_of_small x y h low high = subst (λ z. is_square x z ≡ true) (equal x y h) (same x (x *ℤ x) (own_square x low high))
  where
    own_square : (z : ℤ) → int_le (pos 0) z ≡ true → int_le z (pos 1) ≡ true → z ≡ z *ℤ z
    own_square (pos zero) l m = refl
    own_square (pos (suc zero)) l m = refl
    own_square (pos (suc (suc n))) l m = absurd (grind (arith, ints))
    own_square (negsuc n) l m = absurd (grind (arith, ints))

pub sum_with_zero : (z x y : ℤ) → int_eq z x ≡ true → y ≡ pos 0 → is_sum z x y ≡ true
sum_with_zero z x y h e = let f : z ≡ x = equal z x h in same z (x +ℤ y) (omega (arith, ints, e, f))

pub sum_of_zero : (z x y : ℤ) → int_eq z y ≡ true → x ≡ pos 0 → is_sum z x y ≡ true
sum_of_zero z x y h e = let f : z ≡ y = equal z y h in same z (x +ℤ y) (omega (arith, ints, e, f))

pub difference_of_sum : (z x y : ℤ) → is_sum x z y ≡ true → is_difference z x y ≡ true
difference_of_sum z x y h = let f : x ≡ z +ℤ y = equal x (z +ℤ y) h in same z (x -ℤ y) (omega (arith, ints, f))

pub product_with_one : (z x y : ℤ) → int_eq z x ≡ true → y ≡ pos 1 → is_product z x y ≡ true
product_with_one z x y h e = subst (λ w. is_product z x w ≡ true) (sym e) (let f : z ≡ x = equal z x h in same z (x *ℤ pos 1) (omega (arith, ints, f)))

pub product_of_one : (z x y : ℤ) → int_eq z y ≡ true → x ≡ pos 1 → is_product z x y ≡ true
product_of_one z x y h e = subst (λ w. is_product z w y ≡ true) (sym e) (let f : z ≡ y = equal z y h in same z (pos 1 *ℤ y) (omega (arith, ints, f)))

pub product_of_zero : (z x y : ℤ) → z ≡ pos 0 → x ≡ pos 0 → is_product z x y ≡ true
product_of_zero z x y h e = subst (λ w. is_product z w y ≡ true) (sym e) (same z (pos 0 *ℤ y) (omega (arith, ints, h)))

pub product_with_zero : (z x y : ℤ) → z ≡ pos 0 → y ≡ pos 0 → is_product z x y ≡ true
product_with_zero z x y h e = subst (λ w. is_product z x w ≡ true) (sym e) (same z (x *ℤ pos 0) (omega (arith, ints, h)))

pub first_is_minimum : (z x y : ℤ) → int_eq z x ≡ true → int_le x y ≡ true → is_minimum z x y ≡ true
first_is_minimum z x y h l = grind (arith, ints, clamps)

pub second_is_minimum : (z x y : ℤ) → int_eq z y ≡ true → int_le y x ≡ true → is_minimum z x y ≡ true
second_is_minimum z x y h l = grind (arith, ints, clamps)

pub first_is_maximum : (z x y : ℤ) → int_eq z x ≡ true → int_le y x ≡ true → is_maximum z x y ≡ true
first_is_maximum z x y h l = grind (arith, ints, clamps)

pub second_is_maximum : (z x y : ℤ) → int_eq z y ≡ true → int_le x y ≡ true → is_maximum z x y ≡ true
second_is_maximum z x y h l = grind (arith, ints, clamps)

-- ---- quotients and remainders
quotient : (z x y : ℤ) → is_nonzero y ≡ true → z ≡ int_div x y → is_quotient z x y ≡ true
quotient z x y some e = and_from (is_nonzero y) (int_eq z (int_div x y)) some (same z (int_div x y) e)

remainder : (z x y : ℤ) → is_nonzero y ≡ true → z ≡ int_rem x y → is_remainder z x y ≡ true
remainder z x y some e = and_from (is_nonzero y) (int_eq z (int_rem x y)) some (same z (int_rem x y) e)

div_by_one : (x : ℤ) → int_div x (pos 1) ≡ x
div_by_one (pos n) = ap pos (div-one n)
div_by_one (negsuc n) = ap (λ m. neg_ℤ (pos m)) (div-one (suc n))

pub quotient_by_one : (z x y : ℤ) → int_eq z x ≡ true → y ≡ pos 1 → is_quotient z x y ≡ true
quotient_by_one z x y h e = subst (λ w. is_quotient z x w ≡ true) (sym e) (quotient z x (pos 1) refl (equal z x h ∙ sym (div_by_one x)))

div_of_zero : (y : ℤ) → int_div (pos 0) y ≡ pos 0
div_of_zero (pos n) = ap pos (zero-div n)
div_of_zero (negsuc n) = ap (λ m. neg_ℤ (pos m)) (zero-div (suc n))

pub quotient_of_zero : (z x y : ℤ) → z ≡ pos 0 → x ≡ pos 0 → is_nonzero y ≡ true → is_quotient z x y ≡ true
quotient_of_zero z x y h e some = quotient z x y some (h ∙ sym (ap (λ w. int_div w y) e ∙ div_of_zero y))

div_by_itself : (y : ℤ) → is_nonzero y ≡ true → int_div y y ≡ pos 1
div_by_itself (pos zero) some = absurd (false≢true some)
div_by_itself (pos (suc n)) some = ap pos (div_self {n = suc n} (omega arith))
div_by_itself (negsuc n) some = ap pos (div_self {n = suc n} (omega arith))

pub quotient_by_itself : (z x y : ℤ) → z ≡ pos 1 → int_eq x y ≡ true → is_nonzero y ≡ true → is_quotient z x y ≡ true
quotient_by_itself z x y h e some = quotient z x y some (h ∙ sym (ap (λ w. int_div w y) (equal x y e) ∙ div_by_itself y some))

nonzero_above : (x y : ℤ) → int_le (pos 0) x ≡ true → int_lt x y ≡ true → is_nonzero y ≡ true
nonzero_above x y low less = grind (arith, ints)

small_parts : (x y : ℤ) → int_le (pos 0) x ≡ true → int_lt x y ≡ true → (int_div x y ≡ pos 0) × (int_rem x y ≡ x)
small_parts (pos m) (pos n) low less = let l : m < n = grind (arith, ints) in (ap pos (div-eq_of_lt l), ap pos (mod-eq_of_lt l))
small_parts (pos m) (negsuc n) low less = absurd (grind (arith, ints))
small_parts (negsuc m) y low less = absurd (grind (arith, ints))

pub quotient_of_smaller : (z x y : ℤ) → z ≡ pos 0 → int_le (pos 0) x ≡ true → int_lt x y ≡ true → is_quotient z x y ≡ true
quotient_of_smaller z x y h low less = quotient z x y (nonzero_above x y low less) (h ∙ sym (small_parts x y low less).0)

rem_of_multiple : (x y : ℤ) → unsigned_abs x % unsigned_abs y ≡ 0 → int_rem x y ≡ pos 0
rem_of_multiple (pos n) y e = ap pos e
rem_of_multiple (negsuc n) y e = ap (λ m. neg_ℤ (pos m)) e

pub remainder_of_multiple : (z x y : ℤ) → z ≡ pos 0 → is_multiple x y ≡ true → is_remainder z x y ≡ true
remainder_of_multiple z x y h m =
    let ms = and_parts (is_nonzero y) (unsigned_abs x % unsigned_abs y == 0) m in
    remainder z x y ms.0 (h ∙ sym (rem_of_multiple x y (eqb-true (unsigned_abs x % unsigned_abs y) 0 ms.1)))

pub remainder_of_smaller : (z x y : ℤ) → int_eq z x ≡ true → int_le (pos 0) x ≡ true → int_lt x y ≡ true → is_remainder z x y ≡ true
remainder_of_smaller z x y h low less = remainder z x y (nonzero_above x y low less) (equal z x h ∙ sym (small_parts x y low less).1)
