-- What a cell writes.
use Rattle.std.specs.Prelude.{◌&&◌, ◌||◌, ◌==◌, ◌+◌, ◌-◌, ◌++◌, ◌∷◌, [], ℕ, ℤ, Bool, true, false, List, Option, Some, None, codes, drop, flat_map, is_some, length, nat_lt, not, option_and_then, slice_index, take, if◌then◌else◌}
use Rattle.std.specs.Char.{is_ascii_digit}
use Rattle.std.specs.Fmt.{signed_decimal}
use Rattle.std.specs.List.{list_all}
use Rattle.std.specs.Str.{bytes_eq}
use Rattle.dk_base.specs.Numbers.{integer_of}
use Rattle.dk_table.specs.declared.columns.cells.TruthWords.{TruthWords}
use Rattle.dk_table.specs.declared.columns.cells.TruthWords.TheVariants as words

-- the whole number that the cell writes as numbers are printed, within 64 bits
unfoldable pub whole : List ℕ → Option ℤ
whole cell = option_and_then (λ z. if bytes_eq (signed_decimal z) cell then Some z else None) (integer_of cell)

-- No zero (48) leads but in `0` alone, neither in front nor behind a minus (45): of the texts that write a whole number, the shortest.
abbrev pub is_shortest : List ℕ → Bool
is_shortest [] = true
is_shortest (a ∷ []) = true
is_shortest (a ∷ b ∷ rest) = not (a == 48 || (a == 45 && b == 48))

-- what stands behind a text's minus (45), or the whole text where none leads
abbrev pub size_of : List ℕ → List ℕ
size_of [] = []
size_of (b ∷ bs) = if b == 45 then bs else b ∷ bs

abbrev pub yes : TruthWords → List ℕ
yes words.Lower = codes "true"
yes words.Title = codes "True"
yes words.Upper = codes "TRUE"

abbrev pub no : TruthWords → List ℕ
no words.Lower = codes "false"
no words.Title = codes "False"
no words.Upper = codes "FALSE"

-- the truth value that the cell writes in this spelling
unfoldable pub truth : TruthWords → List ℕ → Option Bool
truth w cell = if bytes_eq cell (yes w) then Some true else if bytes_eq cell (no w) then Some false else None

-- what stands in front of a decimal's dot: a whole number as it is printed, or `-0`
unfoldable pub is_front : List ℕ → Bool
is_front front = is_some (whole front) || bytes_eq front (codes "-0")

-- at this place stands a decimal's dot (46), and behind it stand digits alone
unfoldable pub is_dot : List ℕ → ℕ → Bool
is_dot cell dot = slice_index cell dot == 46 && (is_front (take dot cell) && list_all is_ascii_digit (drop (dot + 1) cell))

-- where the dot of a decimal with so many places stands
unfoldable pub dot_of : ℕ → List ℕ → Option ℕ
dot_of places cell = let dot = length cell - places - 1 in if nat_lt places (length cell) && is_dot cell dot then Some dot else None

-- the decimal with so many places that the cell writes, times 10 to their number, within 64 bits
unfoldable pub decimal_of : ℕ → List ℕ → Option ℤ
decimal_of places cell = option_and_then (λ dot. integer_of (take dot cell ++ drop (dot + 1) cell)) (dot_of places cell)

-- A byte between quotes: a quote (34), a backslash (92), LF (10), CR (13) and a tab (9) are told by a backslash and a byte.
abbrev pub quoted_byte : ℕ → List ℕ
quoted_byte b =
    if b == 34 then 92 ∷ 34 ∷ []
    else if b == 92 then 92 ∷ 92 ∷ []
    else if b == 10 then 92 ∷ 110 ∷ []
    else if b == 13 then 92 ∷ 114 ∷ []
    else if b == 9 then 92 ∷ 116 ∷ []
    else b ∷ []

-- a byte that is told as it stands
abbrev pub is_plain : ℕ → Bool
is_plain b = not (b == 34 || b == 92 || b == 10 || b == 13 || b == 9)

-- the cell between quotes
unfoldable pub quoted : List ℕ → List ℕ
quoted cell = 34 ∷ (flat_map quoted_byte cell ++ 34 ∷ [])
