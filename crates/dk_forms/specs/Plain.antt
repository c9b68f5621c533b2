-- The form plain: whether each tuple satisfies the relation.
use Rattle.std.specs.Prelude.{[], Bool, List, ◌∷◌, if◌then◌else◌}
use Rattle.std.specs.List.{list_all}
use Rattle.dk_forms.specs.Known.{Known, both, broken, fact, nothing}
use Rattle.dk_forms.specs.declared.states.State.{State}
use Rattle.dk_forms.specs.declared.states.State.TheVariants.{Empty, Broken, Holds}

-- ---- plain: each tuple satisfies the relation
abbrev pub IsPlainState : State → Type 0
IsPlainState Empty = Unit {0}
IsPlainState Broken = Unit {0}
IsPlainState Holds = Unit {0}
IsPlainState _ = ⊥

abbrev pub plain_known : State → Known (Unit {0})
plain_known Empty = nothing
plain_known Holds = fact tt
plain_known _ = broken

abbrev pub plain_state : Known (Unit {0}) → State
plain_state nothing = Empty
plain_state broken = Broken
plain_state (fact u) = Holds

abbrev pub plain_join : State → State → State
plain_join a b = plain_state (both (λ _ _. fact tt) (plain_known a) (plain_known b))

-- the state of tuples that satisfy the relation or not
abbrev pub plain_of : List Bool → State
plain_of [] = Empty
plain_of (b ∷ bs) = if list_all (λ h. h) (b ∷ bs) then Holds else Broken
