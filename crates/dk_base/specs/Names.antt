-- Names and their spelling.
use Rattle.std.specs.Prelude.{◌&&◌, ℕ, List, [], ◌∷◌, ◌==◌, if◌then◌else◌}
use Rattle.std.specs.List.{flat_map}

-- the name that a spelling means: a backslash (92) and `_` (95) stand for a blank (32), two backslashes for one; any other backslash stays
unfoldable pub unescaped : List ℕ → List ℕ
unescaped [] = []
unescaped (b ∷ []) = b ∷ []
unescaped (b ∷ c ∷ bs) =
    if b == 92 && c == 95 then 32 ∷ unescaped bs
    else if b == 92 && c == 92 then 92 ∷ unescaped bs
    else b ∷ unescaped (c ∷ bs)

abbrev pub escaped_byte : ℕ → List ℕ
escaped_byte b = if b == 32 then 92 ∷ 95 ∷ [] else if b == 92 then 92 ∷ 92 ∷ [] else b ∷ []

-- the spelling of a name, in which each blank and each backslash is replaced
abbrev pub escaped : List ℕ → List ℕ
escaped name = flat_map escaped_byte name
