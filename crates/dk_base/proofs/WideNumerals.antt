-- The texts of whole numbers are read back.
use Rattle.std.specs.Prelude.{◌≡◌, ◌<◌, ◌^◌, ◌∷◌, ℕ, ℤ, pos, negsuc, neg_ℤ, zero, suc, List, Ok, Result, unsigned_abs, refl}
use Rattle.std.specs.Fmt.{decimal, signed_decimal}
use Rattle.std.specs.Str.{IsAscii, IsUtf8}
use Rattle.std.specs.Str.Parse.{ParsesSigned}
use Rattle.std.proofs.Common.{◌∙◌, ap, arith, subst}
use Rattle.std.proofs.lemmas.Fmt.{IsAscii-decimal_wide, decimal_is_IsNumeral_wide}
use Rattle.std.proofs.lemmas.Result.{Ok-from_Ok_iff}
use Rattle.std.proofs.lemmas.Str.{IsUtf8-from_ascii}
use Rattle.std.proofs.lemmas.Str.Parse.{numerals_by_value, parse_signed_digits, parse_signed_minus, tells_digits}
use mir.Syntax.{w128}

ascii : (z : ℤ) → unsigned_abs z < 2 ^ 127 → IsAscii (signed_decimal z)
ascii (pos n) small i = IsAscii-decimal_wide n (omega arith) i
ascii (negsuc n) small zero = omega arith
ascii (negsuc n) small (suc i) = IsAscii-decimal_wide (suc n) (omega arith) i

-- the text of a number is one
pub number_is_text : (z : ℤ) → unsigned_abs z < 2 ^ 127 → IsUtf8 (signed_decimal z)
number_is_text z small = IsUtf8-from_ascii (signed_decimal z) (ascii z small)

-- and is read as the number
pub number_back : {E : Type 0} (z : ℤ) (text : List ℕ) (r : Result ℤ E) → unsigned_abs z < 2 ^ 127 → text ≡ signed_decimal z → ParsesSigned w128 10 text r → r ≡ Ok z
number_back (pos n) text r small is h =
    let k = decimal_is_IsNumeral_wide n (omega arith) in
    let read = parse_signed_digits (numerals_by_value _ tells_digits) w128 (decimal n) r (subst (λ l. ParsesSigned w128 10 l r) is h) k.0.1 in
    Ok-from_Ok_iff r _ _ read (k.0.0, omega (arith, k.1)) ∙ ap (λ m. Ok (pos m)) k.1
number_back (negsuc n) text r small is h =
    let k = decimal_is_IsNumeral_wide (suc n) (omega arith) in
    let read = parse_signed_minus (numerals_by_value _ tells_digits) w128 (45 ∷ decimal (suc n)) r (subst (λ l. ParsesSigned w128 10 l r) is h) refl in
    Ok-from_Ok_iff r _ _ read (k.0.1, k.0.0, omega (arith, k.1)) ∙ ap (λ m. Ok (neg_ℤ (pos m))) k.1
