-- Lists that are kept by name.
use Rattle.std.specs.Prelude.{ℕ, List, [], ◌∷◌, ◌++◌, bytes_eq, if◌then◌else◌}

-- what is noted under a name
abbrev pub noted_under : {X : Type 0} → List (List ℕ × List X) → List ℕ → List X
noted_under [] name = []
noted_under (n ∷ ns) name = if bytes_eq name n.0 then n.1 else noted_under ns name

-- one item more, last of those under its name
abbrev pub noted : {X : Type 0} → List (List ℕ × List X) → List ℕ → X → List (List ℕ × List X)
noted [] name x = (name, x ∷ []) ∷ []
noted (n ∷ ns) name x = if bytes_eq name n.0 then (n.0, n.1 ++ x ∷ []) ∷ ns else n ∷ noted ns name x
