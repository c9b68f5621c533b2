-- Several lists as one, in which each keeps its order.
use Rattle.std.specs.Prelude.{◌≡◌, ◌++◌, All, List, [], ◌∷◌}

-- The first item is the first of one of the lists, and then the others follow in the same way from what is left of the lists.
abbrev pub IsInterleaved : {X : Type 0} → List X → List (List X) → Type 0
IsInterleaved [] lists = All (λ list. list ≡ []) lists
IsInterleaved {X} (x ∷ xs) lists =
    (front : List (List X))
    × ((rest : List X)
    × ((back : List (List X)) × (lists ≡ front ++ (x ∷ rest) ∷ back) × IsInterleaved xs (front ++ rest ∷ back)))
