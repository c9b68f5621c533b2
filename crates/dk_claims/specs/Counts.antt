-- Counts at the ends of lines, as a report writes them.
use Rattle.std.specs.Prelude.{◌&&◌, ◌++◌, ◌-◌, not, ℕ, Bool, List, [], ◌∷◌, Option, codes, drop, if◌then◌else◌, length, nat_eq, take}
use Rattle.std.specs.Char.{is_ascii_digit}
use Rattle.std.specs.List.{ends_with, list_all, starts_with}
use Rattle.dk_base.specs.Numbers.{natural_of}
use Rattle.dk_base.specs.Pieces.{is_empty}

-- one digit or more
abbrev pub is_number : List ℕ → Bool
is_number text = not (is_empty text) && list_all is_ascii_digit text

-- two blanks and the number in brackets, such as `  [12]`
abbrev pub count_of : List ℕ → List ℕ
count_of number = codes "  [" ++ number ++ codes "]"

-- what stands between the brackets of such a text
abbrev pub digits_in : List ℕ → List ℕ
digits_in count = take (length count - 4) (drop 3 count)

-- it is such a text, of some number
abbrev pub is_count : List ℕ → Bool
is_count text = starts_with nat_eq text (codes "  [") && ends_with nat_eq text (codes "]") && is_number (digits_in text)

-- a text up to the place where a count is all that is left of it
unfoldable pub without_count : List ℕ → List ℕ
without_count [] = []
without_count (b ∷ bs) = if is_count (b ∷ bs) then [] else b ∷ without_count bs

-- the number that the last count of a text tells, where it has one, and 64 bits hold the number
abbrev pub last_count : List ℕ → Option ℕ
last_count text = natural_of (digits_in (drop (length (without_count text)) text))
