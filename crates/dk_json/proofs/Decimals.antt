-- Decimal numbers of up to 64 digits are numbers of JSON.
use Rattle.std.proofs.Common.{◌≡◌, ℕ, ℤ, pos, negsuc, zero, suc, ◌+◌, ◌^◌, ◌<◌, ◌%◌, false, cond, ◌==◌, List, [], ◌∷◌, length, drop, get_or, Some, option_and_then, refl, ap, ◌∙◌, arith, length-append}
use Rattle.std.proofs.lemmas.Bool.{ne_eqb, le-leb, and_from}
use Rattle.std.proofs.lemmas.List.{drop_all, get_or_append_left}
use Rattle.std.proofs.lemmas.Fmt.{decimal_by_steps_wide, decimal_digit, decimal_is_IsNumeral_wide}
use Rattle.std.proofs.lemmas.Str.Parse.{digit_from_value}
use Rattle.std.specs.Char.{is_ascii_digit}
use Rattle.std.specs.Fmt.{decimal, signed_decimal}
use Rattle.std.specs.List.{prefix_len}
use Rattle.std.specs.Str.Parse.{AllDigits}
use Rattle.std.specs.Prelude.{unsigned_abs}
use Rattle.json.specs.Print.{IsNumber}
use Rattle.json.specs.Word.{after_exponent, after_fraction, after_number, after_whole, head}

-- a text that is one whole number without a sign
record IsWhole (text : List ℕ) : Type 0 where
  ends : after_whole text ≡ Some []
  unsigned : (head text == 45) ≡ false

-- the first digit of a number above 0 isn't 0
first_digit : (n : ℕ) → 0 < n → n < 10 ^ 64 → 48 < get_or (decimal n) 0 0
first_digit n above small =
    (decimal_by_steps_wide (λ m ds. (0 < length ds) × (0 < m → 48 < get_or ds 0 0))
    (λ m low. (omega arith, λ positive. omega arith))
    (λ m ds high before. (
      omega (arith, length-append ds ((48 + m % 10) ∷ [])),
      λ positive. omega (arith, get_or_append_left ds ((48 + m % 10) ∷ []) 0 0 before.0, before.1 (omega arith)),
    )) n small).1 above

-- digits stand to the end of a numeral
digits_to_end : (ds : List ℕ) → AllDigits 10 ds → prefix_len is_ascii_digit ds ≡ length ds
digits_to_end [] all = refl
digits_to_end (d ∷ ds) all =
    ap (λ b. cond b (1 + prefix_len is_ascii_digit ds) 0)
    (and_from _ _ (le-leb 48 d (omega (arith, digit_from_value d all.0))) (le-leb d 57 (omega (arith, digit_from_value d all.0))))
    ∙ omega (arith, digits_to_end ds all.1)

-- digits of which the first isn't 0
whole_from_digits : (ds : List ℕ) → 48 < get_or ds 0 0 → prefix_len is_ascii_digit ds ≡ length ds → IsWhole ds
whole_from_digits [] first all = absurd (omega arith)
whole_from_digits (d ∷ ds) first all = record {
  ends = rw (ne_eqb d 48 (λ e. omega arith), all, ne_eqb (suc (length ds)) 0 (λ e. omega arith)) (ap Some (drop_all (length ds) ds (omega arith)));
  unsigned = ne_eqb d 45 (λ e. omega arith);
}

whole_decimal : (n : ℕ) → n < 10 ^ 64 → IsWhole (decimal n)
whole_decimal zero small = let is = decimal_digit 0 (omega arith) in record {
  ends = ap after_whole is;
  unsigned = ap (λ ds. head ds == 45) is;
}
whole_decimal (suc n) small =
    whole_from_digits (decimal (suc n)) (first_digit (suc n) (omega arith) small) (digits_to_end (decimal (suc n)) (decimal_is_IsNumeral_wide (suc n) small).0.1)

pub IsNumber-decimal_wide : (n : ℕ) → n < 10 ^ 64 → IsNumber (decimal n)
unfolding after_number
IsNumber-decimal_wide n small =
    let whole = whole_decimal n small in
    ap (λ left. option_and_then after_exponent (option_and_then after_fraction left))
    (ap (λ b. after_whole (cond b (drop 1 (decimal n)) (decimal n))) whole.unsigned ∙ whole.ends)

-- behind a minus (45)
negative_number : (n : ℕ) → n < 10 ^ 64 → IsNumber (45 ∷ decimal n)
unfolding after_number
negative_number n small = ap (λ left. option_and_then after_exponent (option_and_then after_fraction left)) (whole_decimal n small).ends

pub IsNumber-signed_decimal_wide : (z : ℤ) → unsigned_abs z < 10 ^ 64 → IsNumber (signed_decimal z)
IsNumber-signed_decimal_wide (pos n) small = IsNumber-decimal_wide n small
IsNumber-signed_decimal_wide (negsuc n) small = negative_number (suc n) (omega arith)
