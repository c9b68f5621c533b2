-- The same of the bitwise rules, and of those of the greatest common divisor.
use Rattle.std.specs.Prelude.{◌≡◌, ◌<◌, ◌^◌, ◌==◌, ◌%◌, ℕ, ℤ, pos, negsuc, bit_and, bit_or, bit_xor, int_le, unsigned_abs, true, refl}
use Rattle.std.specs.Int.{cast_unsigned, w64}
use Rattle.std.specs.Int.Bits.{and_self, and_zero_r, or_self, or_zero_r, xor_self, xor_zero_r}
use Rattle.std.specs.Ordering.{int_eq}
use Rattle.std.proofs.Common.{arith, ap, sym, ◌∙◌}
use Rattle.std.proofs.lemmas.Bool.{and_parts, eq-eqb, eqb-true, ltb-true}
use Rattle.std.proofs.lemmas.Int.{ints}
use Rattle.std.proofs.lemmas.Nat.{and_comm, and_mask}
use Rattle.std.proofs.lemmas.Nat.Gcd.{dvd_of_mod-eq-zero, dvd_refl}
use Rattle.std.proofs.Math.Nat.{mod-eq_of_lt, one-dvd}
use Rattle.dk_arith.proofs.GcdLaws.{gcd-swap, gcd_is}
use Rattle.dk_arith.specs.Gcd.{gcd}
use Rattle.dk_base.specs.Numbers.{fits_i64}
use Rattle.dk_meanings.specs.Relations.{is_bitwise, is_gcd, is_multiple, is_nonzero}
use Rattle.dk_suppress.proofs.NumberRules.{equal, same}

-- ---- bit by bit
abbrev bits : ℤ → ℕ
bits x = cast_unsigned w64 x

bitwise : (f : ℕ → ℕ → ℕ) (z x y : ℤ) → bits z ≡ f (bits x) (bits y) → is_bitwise f z x y ≡ true
bitwise f z x y e = eq-eqb (bits z) (f (bits x) (bits y)) e

pub and_of_equal : (z x y : ℤ) → int_eq z x ≡ true → int_eq x y ≡ true → is_bitwise bit_and z x y ≡ true
and_of_equal z x y h k = bitwise bit_and z x y (ap bits (equal z x h) ∙ sym (and_self (bits x)) ∙ ap (λ w. bit_and (bits x) (bits w)) (equal x y k))

pub and_of_zero : (z x y : ℤ) → z ≡ pos 0 → x ≡ pos 0 → is_bitwise bit_and z x y ≡ true
and_of_zero z x y h k = bitwise bit_and z x y (ap bits h ∙ sym (ap (λ w. bit_and (bits w) (bits y)) k))

pub and_with_zero : (z x y : ℤ) → z ≡ pos 0 → y ≡ pos 0 → is_bitwise bit_and z x y ≡ true
and_with_zero z x y h k = bitwise bit_and z x y (ap bits h ∙ sym (and_zero_r (bits x)) ∙ ap (λ w. bit_and (bits x) (bits w)) (sym k))

bits_bound : (x : ℤ) → fits_i64 x ≡ true → bits x < 2 ^ 64
bits_bound (pos n) f = let l : n < 2 ^ 63 = ltb-true n (2 ^ 63) f in omega (arith, l)
bits_bound (negsuc n) f = let l : n < 2 ^ 63 = ltb-true n (2 ^ 63) f in omega (arith, l)

-- all bits are set
and_ones : (x : ℤ) → fits_i64 x ≡ true → bit_and (bits x) (bits (negsuc 0)) ≡ bits x
and_ones x f = and_mask (bits x) 64 ∙ mod-eq_of_lt (bits_bound x f)

pub and_with_ones : (z x y : ℤ) → fits_i64 x ≡ true → int_eq z x ≡ true → y ≡ negsuc 0 → is_bitwise bit_and z x y ≡ true
and_with_ones z x y f h k = bitwise bit_and z x y (ap bits (equal z x h) ∙ sym (and_ones x f) ∙ ap (λ w. bit_and (bits x) (bits w)) (sym k))

pub and_of_ones : (z x y : ℤ) → fits_i64 y ≡ true → int_eq z y ≡ true → x ≡ negsuc 0 → is_bitwise bit_and z x y ≡ true
and_of_ones z x y f h k =
    bitwise bit_and z x y (ap bits (equal z y h) ∙ sym (and_ones y f) ∙ and_comm (bits y) (bits (negsuc 0)) ∙ ap (λ w. bit_and (bits w) (bits y)) (sym k))

pub or_of_equal : (z x y : ℤ) → int_eq z x ≡ true → int_eq x y ≡ true → is_bitwise bit_or z x y ≡ true
or_of_equal z x y h k = bitwise bit_or z x y (ap bits (equal z x h) ∙ sym (or_self (bits x)) ∙ ap (λ w. bit_or (bits x) (bits w)) (equal x y k))

pub or_with_zero : (z x y : ℤ) → int_eq z x ≡ true → y ≡ pos 0 → is_bitwise bit_or z x y ≡ true
or_with_zero z x y h k = bitwise bit_or z x y (ap bits (equal z x h) ∙ sym (or_zero_r (bits x)) ∙ ap (λ w. bit_or (bits x) (bits w)) (sym k))

pub or_of_zero : (z x y : ℤ) → int_eq z y ≡ true → x ≡ pos 0 → is_bitwise bit_or z x y ≡ true
or_of_zero z x y h k = bitwise bit_or z x y (ap bits (equal z y h) ∙ ap (λ w. bit_or (bits w) (bits y)) (sym k))

pub xor_with_zero : (z x y : ℤ) → int_eq z x ≡ true → y ≡ pos 0 → is_bitwise bit_xor z x y ≡ true
xor_with_zero z x y h k = bitwise bit_xor z x y (ap bits (equal z x h) ∙ sym (xor_zero_r (bits x)) ∙ ap (λ w. bit_xor (bits x) (bits w)) (sym k))

pub xor_of_zero : (z x y : ℤ) → int_eq z y ≡ true → x ≡ pos 0 → is_bitwise bit_xor z x y ≡ true
xor_of_zero z x y h k = bitwise bit_xor z x y (ap bits (equal z y h) ∙ ap (λ w. bit_xor (bits w) (bits y)) (sym k))

pub xor_of_equal : (z x y : ℤ) → z ≡ pos 0 → int_eq x y ≡ true → is_bitwise bit_xor z x y ≡ true
xor_of_equal z x y h k = bitwise bit_xor z x y (ap bits h ∙ sym (xor_self (bits x)) ∙ ap (λ w. bit_xor (bits x) (bits w)) (equal x y k))

-- ---- the greatest common divisor
gcd_one : (n : ℕ) → 1 ≡ gcd 1 n
gcd_one n = gcd_is 1 n 1 (dvd_refl 1, one-dvd n, λ d h k. h)

divisor : (a b : ℕ) → b % a ≡ 0 → a ≡ gcd a b
divisor a b e = gcd_is a b a (dvd_refl a, dvd_of_mod-eq-zero a e, λ d h k. h)

pub gcd_of_one : (z x y : ℤ) → z ≡ pos 1 → x ≡ pos 1 → is_gcd z x y ≡ true
gcd_of_one z x y h k = same z (pos (gcd (unsigned_abs x) (unsigned_abs y))) (h ∙ ap pos (gcd_one (unsigned_abs y)) ∙ ap (λ w. pos (gcd (unsigned_abs w) (unsigned_abs y))) (sym k))

pub gcd_with_one : (z x y : ℤ) → z ≡ pos 1 → y ≡ pos 1 → is_gcd z x y ≡ true
gcd_with_one z x y h k =
    same z (pos (gcd (unsigned_abs x) (unsigned_abs y)))
    (h ∙ ap pos (gcd_one (unsigned_abs x) ∙ gcd-swap 1 (unsigned_abs x)) ∙ ap (λ w. pos (gcd (unsigned_abs x) (unsigned_abs w))) (sym k))

own_size : (x : ℤ) → int_le (pos 1) x ≡ true → x ≡ pos (unsigned_abs x)
own_size (pos n) h = refl
own_size (negsuc n) h = absurd (grind (arith, ints))

pub gcd_of_divisor : (z x y : ℤ) → int_eq z x ≡ true → int_le (pos 1) x ≡ true → is_multiple y x ≡ true → is_gcd z x y ≡ true
gcd_of_divisor z x y h low m =
    let ms = and_parts (is_nonzero x) (unsigned_abs y % unsigned_abs x == 0) m in
    same z (pos (gcd (unsigned_abs x) (unsigned_abs y)))
    (equal z x h ∙ own_size x low ∙ ap pos (divisor (unsigned_abs x) (unsigned_abs y) (eqb-true (unsigned_abs y % unsigned_abs x) 0 ms.1)))

pub gcd_with_divisor : (z x y : ℤ) → int_eq z y ≡ true → int_le (pos 1) y ≡ true → is_multiple x y ≡ true → is_gcd z x y ≡ true
gcd_with_divisor z x y h low m =
    let ms = and_parts (is_nonzero y) (unsigned_abs x % unsigned_abs y == 0) m in
    same z (pos (gcd (unsigned_abs x) (unsigned_abs y)))
    (equal z y h ∙ own_size y low ∙ ap pos (divisor (unsigned_abs y) (unsigned_abs x) (eqb-true (unsigned_abs x % unsigned_abs y) 0 ms.1) ∙ gcd-swap (unsigned_abs y) (unsigned_abs x)))
