-- The form few integers: the distinct values, ascending, if they are at most three.
use Rattle.std.specs.Prelude.{ℤ, List}
use Rattle.std.specs.Ordering.{int_cmp}
use Rattle.dk_forms.specs.Known.{Known, both, broken, fact, nothing}
use Rattle.dk_forms.specs.Known.Distinct.{IsFew, few_meet, few_of}
use Rattle.dk_forms.specs.declared.states.State.{State}
use Rattle.dk_forms.specs.declared.states.State.TheVariants.{Empty, Broken, Ints}

-- ---- the distinct numbers, if they are at most three
abbrev pub IsIntsState : State → Type 0
IsIntsState Empty = Unit {0}
IsIntsState Broken = Unit {0}
IsIntsState (Ints s) = IsFew int_cmp 3 s
IsIntsState _ = ⊥

abbrev pub ints_known : State → Known (List ℤ)
ints_known Empty = nothing
ints_known (Ints s) = fact s
ints_known _ = broken

abbrev pub ints_state : Known (List ℤ) → State
ints_state nothing = Empty
ints_state broken = Broken
ints_state (fact s) = Ints s

abbrev pub ints_join : State → State → State
ints_join a b = ints_state (both (few_meet int_cmp 3) (ints_known a) (ints_known b))

abbrev pub ints_of : List ℤ → State
ints_of values = ints_state (few_of int_cmp 3 values)
