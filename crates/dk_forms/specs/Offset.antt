-- The form offset: the number by which each element of the second sequence is greater than its partner in the first.
use Rattle.std.specs.Prelude.{◌==◌, ℤ, ◌-ℤ◌, Bool, false, if◌then◌else◌, List, [], ◌∷◌, length, map, zip, Option, Some, None}
use Rattle.std.specs.Ordering.{int_eq}
use Rattle.std.specs.List.{list_all}
use Rattle.dk_forms.specs.Known.{Known, nothing, broken, fact, both}
use Rattle.dk_forms.specs.Known.Only.{only_meet}
use Rattle.dk_forms.specs.declared.states.State.{State}
use Rattle.dk_forms.specs.declared.states.State.TheVariants.{Empty, Broken, Offset}

-- the differences of two sequences, element by element; where their lengths differ, one difference that is none
abbrev pub differences : List ℤ → List ℤ → List (Option ℤ)
differences s t = if length s == length t then map (λ (p : ℤ × ℤ). Some (p.1 -ℤ p.0)) (zip s t) else None ∷ []

abbrev pub is_difference : ℤ → Option ℤ → Bool
is_difference k None = false
is_difference k (Some d) = int_eq k d

-- the number that all differences are, if there is one
abbrev pub offset_known_of : List (Option ℤ) → Known ℤ
offset_known_of [] = nothing
offset_known_of (None ∷ ds) = broken
offset_known_of (Some k ∷ ds) = if list_all (is_difference k) ds then fact k else broken

abbrev pub IsOffsetState : State → Type 0
IsOffsetState Empty = Unit {0}
IsOffsetState Broken = Unit {0}
IsOffsetState (Offset k) = Unit {0}
IsOffsetState _ = ⊥

abbrev pub offset_known : State → Known ℤ
offset_known Empty = nothing
offset_known (Offset k) = fact k
offset_known _ = broken

abbrev pub offset_state : Known ℤ → State
offset_state nothing = Empty
offset_state broken = Broken
offset_state (fact k) = Offset k

abbrev pub offset_join : State → State → State
offset_join a b = offset_state (both (only_meet int_eq) (offset_known a) (offset_known b))

abbrev pub offset_of : List (Option ℤ) → State
offset_of ds = offset_state (offset_known_of ds)
