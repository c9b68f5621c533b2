-- Numbers as fields.
use Rattle.std.specs.Prelude.{◌<◌, ◌^◌, ◌∷◌, ◌==◌, [], ◌≡◌, ℕ, ℤ, Bool, pos, negsuc, suc, false, true, List, None, Some, if◌then◌else◌, length, option_and_then, unsigned_abs, refl}
use Rattle.std.specs.Char.{digit_value, is_digit}
use Rattle.std.specs.List.{list_all}
use Rattle.std.specs.Fmt.{decimal, signed_decimal}
use Rattle.std.specs.Str.Parse.{AllDigits, IsNumeral, digits_value}
use Rattle.std.proofs.Common.{◌∙◌, ap, arith}
use Rattle.std.proofs.lemmas.Fmt.{decimal_is_IsNumeral_wide}
use Rattle.std.proofs.lemmas.Str.Parse.{digit_from_value}
use Rattle.std.proofs.lemmas.Bool.{lt-ltb, ne_eqb}
use Rattle.dk_base.specs.Numbers.{fits_i64, integer_of, numeral_of, whole_of}
use Rattle.dk_state.specs.Reading.{HasNone, ends_field}

-- no digit is a blank or an LF
digits_plain : (ds : List ℕ) → AllDigits 10 ds → HasNone ends_field ds
digits_plain [] all = refl
digits_plain (d ∷ ds) all =
    let range = digit_from_value d all.0 in
    let blank : (d == 32) ≡ false = ne_eqb d 32 (λ e. absurd (omega (arith, range))) in
    let lf : (d == 10) ≡ false = ne_eqb d 10 (λ e. absurd (omega (arith, range))) in
    rw (blank, lf) (digits_plain ds all.1)

pub number_plain : (z : ℤ) → unsigned_abs z < 2 ^ 127 → HasNone ends_field (signed_decimal z)
number_plain (pos n) small = digits_plain (decimal n) (decimal_is_IsNumeral_wide n (omega arith)).0.1
number_plain (negsuc n) small = digits_plain (decimal (suc n)) (decimal_is_IsNumeral_wide (suc n) (omega arith)).0.1

-- ---- numbers of 64 bits
digits_pass : (ds : List ℕ) → AllDigits 10 ds → list_all (λ d. is_digit d 10) ds ≡ true
digits_pass [] all = refl
digits_pass (d ∷ ds) all = rw (lt-ltb (digit_value d) 10 all.0) (digits_pass ds all.1)

numeral_back : (ds : List ℕ) (n : ℕ) → IsNumeral 10 ds → digits_value 10 ds ≡ n → numeral_of 10 ds ≡ Some n
numeral_back ds n all is = rw (lt-ltb 0 (length ds) all.0, digits_pass ds all.1) (ap (λ (m : ℕ). Some m) is)

without_minus : (ds : List ℕ) (n : ℕ) → IsNumeral 10 ds → digits_value 10 ds ≡ n → whole_of ds ≡ Some (pos n)
unfolding whole_of
without_minus [] n all is = absurd (omega (arith, all.0))
without_minus (d ∷ ds) n all is =
    let range = digit_from_value d all.1.0 in
    let minus : (d == 45) ≡ false = ne_eqb d 45 (λ e. absurd (omega (arith, range))) in
    rw (minus, numeral_back (d ∷ ds) n all is) refl

behind_minus : (ds : List ℕ) (n : ℕ) → IsNumeral 10 ds → digits_value 10 ds ≡ suc n → whole_of (45 ∷ ds) ≡ Some (negsuc n)
unfolding whole_of
behind_minus ds n all is = rw (numeral_back ds (suc n) all is) refl

whole_back : (z : ℤ) → unsigned_abs z < 2 ^ 127 → whole_of (signed_decimal z) ≡ Some z
whole_back (pos n) small = let h = decimal_is_IsNumeral_wide n (omega arith) in without_minus (decimal n) n h.0 h.1
whole_back (negsuc n) small = let h = decimal_is_IsNumeral_wide (suc n) (omega arith) in behind_minus (decimal (suc n)) n h.0 h.1

-- a number of 64 bits that a number's text writes is that number
pub integer_back : (z y : ℤ) → unsigned_abs z < 2 ^ 127 → Some y ≡ integer_of (signed_decimal z) → y ≡ z
unfolding integer_of
integer_back z y small is =
    by (fits_i64 z) (is ∙ ap (option_and_then (λ (x : ℤ). if fits_i64 x then Some x else None)) (whole_back z small))
  where
    by : (fits : Bool) → Some y ≡ (if fits then Some z else None) → y ≡ z
    by true e = cc
    by false e = absurd (cc)
