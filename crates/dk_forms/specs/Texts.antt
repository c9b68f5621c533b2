-- The form few texts: the distinct values, ascending by their bytes, if they are at most three.
use Rattle.std.specs.Prelude.{ℕ, List}
use Rattle.std.specs.Ordering.{nat_cmp}
use Rattle.std.specs.Cmp.Lexicographic.{slice_cmp}
use Rattle.dk_forms.specs.Known.{Known, both, broken, fact, nothing}
use Rattle.dk_forms.specs.Known.Distinct.{IsFew, few_meet, few_of}
use Rattle.dk_forms.specs.declared.states.State.{State}
use Rattle.dk_forms.specs.declared.states.State.TheVariants.{Empty, Broken, Texts}

-- ---- the distinct texts, if they are at most three
abbrev pub IsTextsState : State → Type 0
IsTextsState Empty = Unit {0}
IsTextsState Broken = Unit {0}
IsTextsState (Texts s) = IsFew (slice_cmp nat_cmp) 3 s
IsTextsState _ = ⊥

abbrev pub texts_known : State → Known (List (List ℕ))
texts_known Empty = nothing
texts_known (Texts s) = fact s
texts_known _ = broken

abbrev pub texts_state : Known (List (List ℕ)) → State
texts_state nothing = Empty
texts_state broken = Broken
texts_state (fact s) = Texts s

abbrev pub texts_join : State → State → State
texts_join a b = texts_state (both (few_meet (slice_cmp nat_cmp) 3) (texts_known a) (texts_known b))

abbrev pub texts_of : List (List ℕ) → State
texts_of values = texts_state (few_of (slice_cmp nat_cmp) 3 values)
