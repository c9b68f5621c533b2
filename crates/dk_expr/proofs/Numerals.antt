-- Numbers in the front of a text.
use Rattle.std.specs.Prelude.{◌≡◌, ◌<◌, ◌^◌, ◌∷◌, ◌++◌, ◌==◌, [], ℕ, ℤ, pos, negsuc, suc, true, false, not, List, length, take, unsigned_abs, refl}
use Rattle.std.specs.Fmt.{decimal, signed_decimal}
use Rattle.std.specs.List.{list_all, position_or_len}
use Rattle.std.specs.Str.Parse.{AllDigits}
use Rattle.std.proofs.Common.{◌∙◌, ap, arith}
use Rattle.std.proofs.lemmas.Bool.{and_parts, ne_eqb}
use Rattle.std.proofs.lemmas.Fmt.{decimal_is_IsNumeral_wide}
use Rattle.std.proofs.lemmas.List.{take_at}
use Rattle.std.proofs.lemmas.Str.Parse.{digit_from_value}
use Rattle.dk_expr.specs.Readable.{begins_behind_number, ends_number}

-- ---- where it ends
abbrev pub HasNone : List ℕ → Type 0
HasNone bytes = list_all (λ b. not (ends_number b)) bytes ≡ true

-- no digit ends a number
digits_plain : (ds : List ℕ) → AllDigits 10 ds → HasNone ds
digits_plain [] all = refl
digits_plain (d ∷ ds) all =
    let range = digit_from_value d all.0 in
    let blank : (d == 32) ≡ false = ne_eqb d 32 (λ e. absurd (omega (arith, range))) in
    let comma : (d == 44) ≡ false = ne_eqb d 44 (λ e. absurd (omega (arith, range))) in
    let closing : (d == 41) ≡ false = ne_eqb d 41 (λ e. absurd (omega (arith, range))) in
    rw (blank, comma, closing) (digits_plain ds all.1)

pub number_plain : (z : ℤ) → unsigned_abs z < 2 ^ 127 → HasNone (signed_decimal z)
number_plain (pos n) small = digits_plain (decimal n) (decimal_is_IsNumeral_wide n (omega arith)).0.1
number_plain (negsuc n) small = digits_plain (decimal (suc n)) (decimal_is_IsNumeral_wide (suc n) (omega arith)).0.1

-- the first byte that ends a number stands behind those that don't
pub first_behind : (number more : List ℕ) → HasNone number → begins_behind_number more ≡ true → position_or_len ends_number (number ++ more) ≡ length number
first_behind [] [] none first = refl
first_behind [] (b ∷ more) none first = rw first refl
first_behind (b ∷ number) more none first =
    let both = and_parts (not (ends_number b)) (list_all (λ c. not (ends_number c)) number) none in
    rw both.0 (omega (arith, first_behind number more both.1 first))

-- so the number is what is in front of it
pub number_taken : (bytes found : List ℕ) (z : ℤ) (more : List ℕ) (len : ℕ) → unsigned_abs z < 2 ^ 127 → bytes ≡ signed_decimal z ++ more → begins_behind_number more ≡ true
    → len ≡ position_or_len ends_number bytes → found ≡ take len bytes → (found ≡ signed_decimal z) × (len ≡ length (signed_decimal z))
number_taken bytes found z more len small is first long front =
    let own : len ≡ length (signed_decimal z) = long ∙ ap (position_or_len ends_number) is ∙ first_behind (signed_decimal z) more (number_plain z small) first in
    (front ∙ (λ i. take (own i) (is i)) ∙ take_at (signed_decimal z) more (length (signed_decimal z)) refl, own)
