-- The form greatest: the greatest of the values.
use Rattle.std.specs.Prelude.{[], ℤ, List, ◌∷◌, fold}
use Rattle.std.specs.Int.{int_max}
use Rattle.dk_forms.specs.Known.{Known, both, broken, fact, nothing}
use Rattle.dk_forms.specs.declared.states.State.{State}
use Rattle.dk_forms.specs.declared.states.State.TheVariants.{Empty, Broken, Greatest}

-- ---- the greatest of the values
abbrev pub IsGreatestState : State → Type 0
IsGreatestState Empty = Unit {0}
IsGreatestState Broken = Unit {0}
IsGreatestState (Greatest k) = Unit {0}
IsGreatestState _ = ⊥

abbrev pub greatest_known : State → Known ℤ
greatest_known Empty = nothing
greatest_known (Greatest k) = fact k
greatest_known _ = broken

abbrev pub greatest_state : Known ℤ → State
greatest_state nothing = Empty
greatest_state broken = Broken
greatest_state (fact k) = Greatest k

abbrev pub greatest_join : State → State → State
greatest_join a b = greatest_state (both (λ x y. fact (int_max x y)) (greatest_known a) (greatest_known b))

abbrev pub greatest_of : List ℤ → State
greatest_of [] = Empty
greatest_of (x ∷ xs) = Greatest (fold int_max x xs)
