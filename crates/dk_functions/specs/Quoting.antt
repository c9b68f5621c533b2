-- Texts of a report in comments and strings.
use Rattle.std.specs.Prelude.{◌==◌, ◌&&◌, ◌++◌, ℕ, nat_le, nat_lt, Bool, not, List, [], ◌∷◌, codes, flat_map, if◌then◌else◌}
use Rattle.dk_languages.specs.Literals.{octal}

-- A byte that stands for itself in a string of Python or C: one that can be seen or is a blank, and is no quote (34), no backslash (92)
-- and no question mark (63), so that none belongs to a trigraph.
abbrev pub is_plain_byte : ℕ → Bool
is_plain_byte b = nat_le 32 b && (nat_lt b 127 && (not (b == 34) && (not (b == 92) && not (b == 63))))

abbrev pub quoted_byte : ℕ → List ℕ
quoted_byte b = if is_plain_byte b then b ∷ [] else octal b

-- A text as a string of Python and C. It has no line end and ends with a quote, so in a comment it ends with its line.
abbrev pub quoted : List ℕ → List ℕ
quoted text = codes "\"" ++ flat_map quoted_byte text ++ codes "\""
