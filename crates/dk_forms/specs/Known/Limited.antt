-- Values of which those out of a limit say nothing.
use Rattle.std.specs.Prelude.{[], Bool, if◌then◌else◌, List, ◌∷◌}
use Rattle.std.specs.List.{list_all}
use Rattle.dk_forms.specs.Known.{Known, broken, nothing}

-- some values
abbrev pub limited_of : {F V : Type 0} → (V → Bool) → (V → List V → Known F) → List V → Known F
limited_of within from [] = nothing
limited_of within from (v ∷ vs) = if list_all within (v ∷ vs) then from v vs else broken
