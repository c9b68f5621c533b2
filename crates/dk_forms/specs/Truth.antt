-- The form truth: the truth value, if there is only one.
use Rattle.std.specs.Prelude.{Bool, List}
use Rattle.std.proofs.Math.Bool.{beq}
use Rattle.dk_forms.specs.Known.{Known, nothing, broken, fact, both}
use Rattle.dk_forms.specs.Known.Only.{only_of, only_meet}
use Rattle.dk_forms.specs.declared.states.State.{State}
use Rattle.dk_forms.specs.declared.states.State.TheVariants.{Empty, Broken, Truth}

abbrev pub IsTruthState : State → Type 0
IsTruthState Empty = Unit {0}
IsTruthState Broken = Unit {0}
IsTruthState (Truth b) = Unit {0}
IsTruthState _ = ⊥

abbrev pub truth_known : State → Known Bool
truth_known Empty = nothing
truth_known (Truth b) = fact b
truth_known _ = broken

abbrev pub truth_state : Known Bool → State
truth_state nothing = Empty
truth_state broken = Broken
truth_state (fact b) = Truth b

abbrev pub truth_join : State → State → State
truth_join a b = truth_state (both (only_meet beq) (truth_known a) (truth_known b))

abbrev pub truth_of : List Bool → State
truth_of values = truth_state (only_of beq values)
