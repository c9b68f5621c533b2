-- A number as a field begins with a digit.
use Rattle.std.specs.Prelude.{◌≡◌, ◌<◌, ◌^◌, ◌++◌, ◌∷◌, [], ℕ, true, List, length, refl}
use Rattle.std.specs.Fmt.{decimal}
use Rattle.std.specs.Str.Parse.{AllDigits}
use Rattle.std.proofs.Common.{arith}
use Rattle.std.proofs.lemmas.Bool.{le-leb}
use Rattle.std.proofs.lemmas.Fmt.{decimal_is_IsNumeral}
use Rattle.std.proofs.lemmas.Str.Parse.{digit_from_value}
use Rattle.dk_state.specs.Lines.{behind_blank}
use Rattle.dk_state.specs.Reading.{begins_number}

digit_first : (ds rest : List ℕ) → 0 < length ds → AllDigits 10 ds → begins_number (32 ∷ (ds ++ rest)) ≡ true
digit_first [] rest some all = absurd (omega arith)
digit_first (d ∷ ds) rest some all =
    let range = digit_from_value d all.0 in
    rw (le-leb 48 d (omega (arith, range)), le-leb d 57 (omega (arith, range))) refl

pub first_of_number : (n : ℕ) (rest : List ℕ) → n < 2 ^ 32 → begins_number (behind_blank (decimal n) ++ rest) ≡ true
first_of_number n rest small =
    let k = decimal_is_IsNumeral n (omega arith) in
    digit_first (decimal n) rest k.0.0 k.0.1
