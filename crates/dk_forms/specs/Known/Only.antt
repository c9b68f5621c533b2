-- The one value of a list, if it has only one.
use Rattle.std.specs.Prelude.{Bool, if◌then◌else◌, List, [], ◌∷◌}
use Rattle.std.specs.List.{list_all}
use Rattle.dk_forms.specs.Known.{Known, nothing, broken, fact}

-- the value that all values are, if there is one
abbrev pub only_of : {V : Type 0} → (V → V → Bool) → List V → Known V
only_of same [] = nothing
only_of same (v ∷ vs) = if list_all (same v) vs then fact v else broken

-- what two lists of one value each have together
abbrev pub only_meet : {V : Type 0} → (V → V → Bool) → V → V → Known V
only_meet same x y = if same x y then fact x else broken
