-- What a row says of variables in samples.
use Rattle.std.specs.Prelude.{Bool, List, filter, map}
use Rattle.std.specs.List.{list_all}
use Rattle.dk_base.specs.declared.kinds.VarId.{VarId}
use Rattle.dk_base.specs.declared.values.Value.{Value}
use Rattle.dk_forms.specs.declared.states.State.{State}
use Rattle.dk_meanings.specs.Meanings.{state_of}
use Rattle.dk_samples.specs.Samples.{is_present, value_in}
use Rattle.dk_template.specs.Fitting.{fits}
use Rattle.dk_template.specs.Premises.{premise_fits}
use Rattle.dk_template.specs.declared.answers.Premise.{Premise}
use Rattle.dk_template.specs.declared.grammar.RowId.{RowId}

-- the values of the variables in a sample
abbrev pub tuple_in : List VarId → List Value → List Value
tuple_in vars sample = map (value_in sample) vars

-- no value of the tuple is missing
abbrev pub is_whole : List Value → Bool
is_whole tuple = list_all is_present tuple

-- the tuples of the variables in the samples, without those in which a value is missing
abbrev pub tuples_of : List VarId → List (List Value) → List (List Value)
tuples_of vars samples = filter is_whole (map (tuple_in vars) samples)

-- What a row says of variables: its state of their tuples in the samples. The variables may be in any order, and may repeat.
unfoldable pub fit : RowId → List VarId → List (List Value) → State
fit row vars samples = state_of row (tuples_of vars samples)

-- the row holds of the variables in these samples: its fit is a state that fits
abbrev pub holds : RowId → List VarId → List (List Value) → Bool
holds row vars samples = fits (fit row vars samples)

-- whether a premise of a rule fits on samples, over the variables of the rule's conclusion
abbrev pub premise_holds : List (List Value) → Premise → List VarId → Bool
premise_holds samples premise vars = premise_fits (λ row roles. fit row roles samples) premise vars
