-- Whole numbers as text.
use Rattle.std.specs.Prelude.{◌&&◌, ◌==◌, ◌^◌, ℕ, ℤ, pos, negsuc, neg_ℤ, Bool, true, false, List, [], ◌∷◌, length, nat_lt, take, drop, Option, Some, None, option_and_then, if◌then◌else◌}
use Rattle.std.specs.Char.{is_digit}
use Rattle.std.specs.List.{list_all}
use Rattle.std.specs.Option.{option_map}
use Rattle.std.specs.Str.Parse.{digits_value}
use Rattle.core.specs.Float.Numeral.{digits_len}

-- one digit or more, and nothing else
abbrev pub is_numeral : ℕ → List ℕ → Bool
is_numeral radix text = nat_lt 0 (length text) && list_all (λ d. is_digit d radix) text

-- the number that the digits write
abbrev pub numeral_of : ℕ → List ℕ → Option ℕ
numeral_of radix text = if is_numeral radix text then Some (digits_value radix text) else None

abbrev pub negated : ℕ → ℤ
negated n = neg_ℤ (pos n)

-- the number of this sign and size
abbrev pub signed : Bool → ℕ → ℤ
signed is_negative n = if is_negative then negated n else pos n

-- the whole number that decimal digits with an optional minus (45) write
unfoldable pub whole_of : List ℕ → Option ℤ
whole_of [] = None
whole_of (b ∷ bs) =
    if b == 45 then option_map (signed true) (numeral_of 10 bs)
    else option_map (signed false) (numeral_of 10 (b ∷ bs))

-- whether a signed number of 64 bits holds it
abbrev pub fits_i64 : ℤ → Bool
fits_i64 (pos n) = nat_lt n (2 ^ 63)
fits_i64 (negsuc n) = nat_lt n (2 ^ 63)

-- whether an unsigned number of 64 bits holds it
abbrev pub fits_u64 : ℤ → Bool
fits_u64 (pos n) = nat_lt n (2 ^ 64)
fits_u64 (negsuc n) = false

-- a number of 64 bits, or none
abbrev pub in_u64 : ℕ → Option ℕ
in_u64 n = if nat_lt n (2 ^ 64) then Some n else None

-- the number of 64 bits that decimal digits with an optional minus write
unfoldable pub integer_of : List ℕ → Option ℤ
integer_of text = option_and_then (λ z. if fits_i64 z then Some z else None) (whole_of text)

-- the number of 64 bits that decimal digits write
unfoldable pub natural_of : List ℕ → Option ℕ
natural_of text = option_and_then in_u64 (numeral_of 10 text)

-- the number that up to 18 decimal digits in front write, and what follows them
unfoldable pub short_digits : List ℕ → Option (ℕ × List ℕ)
short_digits bytes =
    if nat_lt 0 (digits_len bytes) && nat_lt (digits_len bytes) 19 then Some (digits_value 10 (take (digits_len bytes) bytes), drop (digits_len bytes) bytes)
    else None

-- the whole number that such digits with an optional minus (45) in front write, and what follows them
unfoldable pub short_number : List ℕ → Option (ℤ × List ℕ)
short_number [] = None
short_number (b ∷ bs) =
    if b == 45 then option_map (λ r. (negated r.0, r.1)) (short_digits bs)
    else option_map (λ r. (pos r.0, r.1)) (short_digits (b ∷ bs))
