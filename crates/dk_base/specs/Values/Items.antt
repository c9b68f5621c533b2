-- What a text is as a value of a kind that is no sequence.
use Rattle.std.specs.Prelude.{◌||◌, ◌&&◌, ◌==◌, ◌^◌, ℕ, ℤ, pos, Bool, true, false, not, List, [], ◌∷◌, codes, nat_lt, unsigned_abs, Option, Some, None, if◌then◌else◌}
use Rattle.std.specs.Option.{option_map}
use Rattle.std.specs.Str.{bytes_eq}
use Rattle.dk_base.specs.Numbers.{fits_i64, fits_u64, numeral_of, signed, whole_of}
use Rattle.dk_base.specs.Pieces.{is_empty}
use Rattle.dk_base.specs.declared.values.items.Item.{Item}
use Rattle.dk_base.specs.declared.values.items.Item.TheVariants.{Bad, Missing, Present}

-- the words for a missing value
abbrev pub is_missing_word : List ℕ → Bool
is_missing_word text = bytes_eq text (codes "nonsensical") || bytes_eq text (codes "uninit") || bytes_eq text (codes "missing")

-- a text that writes no number is no value, and a number outside its type is missing
abbrev pub item_in_range : (ℤ → Bool) → Option ℤ → Item ℤ
item_in_range fits None = Bad
item_in_range fits (Some z) = if fits z then Present z else Missing

-- the same of a number without a sign
abbrev pub item_in_u64 : Option ℕ → Item ℕ
item_in_u64 None = Bad
item_in_u64 (Some n) = if nat_lt n (2 ^ 64) then Present n else Missing

abbrev pub item_map : {A B : Type 0} → (A → B) → Item A → Item B
item_map f Bad = Bad
item_map f Missing = Missing
item_map f (Present x) = Present (f x)

-- `true`, `1`, `false` or `0`
unfoldable pub bool_item : List ℕ → Item Bool
bool_item text =
    if is_missing_word text then Missing
    else if bytes_eq text (codes "true") || bytes_eq text (codes "1") then Present true
    else if bytes_eq text (codes "false") || bytes_eq text (codes "0") then Present false
    else Bad

-- decimal digits with an optional minus; `true` is 1 and `false` is 0
unfoldable pub int_item : List ℕ → Item ℤ
int_item text =
    if is_missing_word text then Missing
    else if bytes_eq text (codes "true") then Present (pos 1)
    else if bytes_eq text (codes "false") then Present (pos 0)
    else item_in_range fits_i64 (whole_of text)

-- `0x` (48, 120) and hexadecimal digits, or decimal digits with an optional minus
unfoldable pub hash_code_of : List ℕ → Option ℤ
hash_code_of [] = None
hash_code_of (b ∷ []) = whole_of (b ∷ [])
hash_code_of (b ∷ c ∷ bs) = if b == 48 && c == 120 then option_map (signed false) (numeral_of 16 bs) else whole_of (b ∷ c ∷ bs)

-- a hash code; `null` is 0
unfoldable pub hash_item : List ℕ → Item ℕ
hash_item text =
    if is_missing_word text then Missing
    else if bytes_eq text (codes "null") then Present 0
    else item_map unsigned_abs (item_in_range fits_u64 (hash_code_of text))

-- behind an opening quote: the first quote (34) that no backslash (92) takes with it is the last byte, and no byte is an LF (10)
abbrev pub closes_quote : Bool → List ℕ → Bool
closes_quote escaped [] = false
closes_quote escaped (b ∷ bs) =
    if b == 10 then false
    else if not escaped && b == 34 then is_empty bs
    else closes_quote (not escaped && b == 92) bs

unfoldable pub is_quoted : List ℕ → Bool
is_quoted [] = false
is_quoted (b ∷ bs) = b == 34 && closes_quote false bs

-- `null`, or a text in quotes
unfoldable pub is_text : List ℕ → Bool
is_text text = bytes_eq text (codes "null") || is_quoted text

-- the whole text as it is spelled
unfoldable pub str_item : List ℕ → Item (List ℕ)
str_item text = if is_missing_word text then Missing else if is_text text then Present text else Bad
