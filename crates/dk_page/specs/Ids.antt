-- The ids by which links lead to the sections of a page.
use Rattle.std.specs.Prelude.{◌==◌, ◌/◌, ◌%◌, ◌+◌, ◌&&◌, ◌||◌, ◌++◌, ℕ, nat_lt, not, Bool, List, [], ◌∷◌, bytes_eq, codes, decimal, filter, flat_map, if◌then◌else◌, length}
use Rattle.std.specs.Int.{is_in_range}
use Rattle.dk_base.specs.Pieces.{is_empty}

-- A byte that stands for itself in an id: one that a browser leaves as it is behind the # of an address. So it is no blank, none of
-- " (34), % (37), < (60), > (62) and ` (96), and of ASCII.
abbrev pub is_id_byte : ℕ → Bool
is_id_byte b = is_in_range 33 126 b && not (b == 34 || b == 37 || b == 60 || b == 62 || b == 96)

abbrev pub upper_digit : ℕ → ℕ
upper_digit d = if nat_lt d 10 then 48 + d else 55 + d

-- a byte of an id, as it stands in HTML, where & (38) is &amp;
abbrev pub id_byte : ℕ → List ℕ
id_byte b =
    if b == 38 then codes "&amp;"
    else if is_id_byte b then b ∷ []
    else 37 ∷ upper_digit (b / 16) ∷ upper_digit (b % 16) ∷ []

-- the id of the first section of a name
abbrev pub key : List ℕ → List ℕ
key name = if is_empty name then codes "%" else flat_map id_byte name

-- the id of a section, behind so many of its name
abbrev pub id_behind : ℕ → List ℕ → List ℕ
id_behind count name = if count == 0 then key name else key name ++ codes "%~" ++ decimal (count + 1)

-- how many of the names are this one
abbrev pub times : List ℕ → List (List ℕ) → ℕ
times name names = length (filter (bytes_eq name) names)

-- the id of the section of a name, behind sections of those names
abbrev pub id_after : List (List ℕ) → List ℕ → List ℕ
id_after names name = id_behind (times name names) name
