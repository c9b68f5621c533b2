-- The form code: the hash code, if there is only one.
use Rattle.std.specs.Prelude.{ℕ, nat_eq, List}
use Rattle.dk_forms.specs.Known.{Known, nothing, broken, fact, both}
use Rattle.dk_forms.specs.Known.Only.{only_of, only_meet}
use Rattle.dk_forms.specs.declared.states.State.{State}
use Rattle.dk_forms.specs.declared.states.State.TheVariants.{Empty, Broken, Code}

abbrev pub IsCodeState : State → Type 0
IsCodeState Empty = Unit {0}
IsCodeState Broken = Unit {0}
IsCodeState (Code n) = Unit {0}
IsCodeState _ = ⊥

abbrev pub code_known : State → Known ℕ
code_known Empty = nothing
code_known (Code n) = fact n
code_known _ = broken

abbrev pub code_state : Known ℕ → State
code_state nothing = Empty
code_state broken = Broken
code_state (fact n) = Code n

abbrev pub code_join : State → State → State
code_join a b = code_state (both (only_meet nat_eq) (code_known a) (code_known b))

abbrev pub code_of : List ℕ → State
code_of values = code_state (only_of nat_eq values)
