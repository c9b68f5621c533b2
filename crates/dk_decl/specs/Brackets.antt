-- What a variable may be compared with, as text: `E`, or `E[I]` and further brackets.
use Rattle.std.specs.Prelude.{◌&&◌, ◌==◌, ◌-◌, ℕ, ℤ, negsuc, Bool, List, [], ◌∷◌, length, nat_lt, slice_index, take, is_some, unwrap_or, Option, Some, None, if◌then◌else◌}
use Rattle.std.specs.List.{list_all, slice_split}
use Rattle.std.specs.Option.{option_map}
use Rattle.dk_base.specs.Numbers.{integer_of}
use Rattle.dk_base.specs.declared.kinds.Compar.{Compar}

-- the parts of a text between its `[` (91)
unfoldable pub bracket_parts : List ℕ → List (List ℕ)
bracket_parts text = slice_split (λ b. b == 91) text

-- the number in front of the `]` (93) that ends the part
unfoldable pub index_of : List ℕ → Option ℤ
index_of part =
    if nat_lt 0 (length part) && slice_index part (length part - 1) == 93 then integer_of (take (length part - 1) part)
    else None

abbrev pub is_index : List ℕ → Bool
is_index part = is_some (index_of part)

-- the number in the first brackets, or -1
abbrev pub first_index : List (List ℕ) → ℤ
first_index [] = negsuc 0
first_index (part ∷ more) = unwrap_or (index_of part) (negsuc 0)

-- the number in the first brackets, if each bracket holds a number
unfoldable pub index_number : List (List ℕ) → Option ℤ
index_number brackets = if list_all is_index brackets then Some (first_index brackets) else None

abbrev pub with_numbers : Option ℤ → Option ℤ → Option Compar
with_numbers None index = None
with_numbers (Some elem) index = option_map (λ i. record { elem = elem; index = i }) index

-- a number, and behind it the brackets
unfoldable pub numbers_of : List (List ℕ) → Option Compar
numbers_of [] = None
numbers_of (front ∷ brackets) = with_numbers (integer_of front) (index_number brackets)

-- the element number, and the index number in the first brackets; further brackets have no effect
unfoldable pub compar_of : List ℕ → Option Compar
compar_of text = numbers_of (bracket_parts text)

-- of a variable without such a line, or under the word `none`
abbrev pub no_compar : Compar
no_compar = record { elem = negsuc 0; index = negsuc 0 }
