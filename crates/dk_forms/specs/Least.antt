-- The form least: the least of the values.
use Rattle.std.specs.Prelude.{[], ℤ, List, ◌∷◌, fold}
use Rattle.std.specs.Int.{int_min}
use Rattle.dk_forms.specs.Known.{Known, both, broken, fact, nothing}
use Rattle.dk_forms.specs.declared.states.State.{State}
use Rattle.dk_forms.specs.declared.states.State.TheVariants.{Empty, Broken, Least}

-- ---- the least of the values
abbrev pub IsLeastState : State → Type 0
IsLeastState Empty = Unit {0}
IsLeastState Broken = Unit {0}
IsLeastState (Least k) = Unit {0}
IsLeastState _ = ⊥

abbrev pub least_known : State → Known ℤ
least_known Empty = nothing
least_known (Least k) = fact k
least_known _ = broken

abbrev pub least_state : Known ℤ → State
least_state nothing = Empty
least_state broken = Broken
least_state (fact k) = Least k

abbrev pub least_join : State → State → State
least_join a b = least_state (both (λ x y. fact (int_min x y)) (least_known a) (least_known b))

abbrev pub least_of : List ℤ → State
least_of [] = Empty
least_of (x ∷ xs) = Least (fold int_min x xs)
