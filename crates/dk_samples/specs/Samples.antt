-- Samples: a sample is the list of the values by variable.
use Rattle.std.specs.Prelude.{◌≡◌, Bool, true, false, All, List}
use Rattle.dk_base.specs.Values.Tuples.{value_at}
use Rattle.dk_base.specs.declared.kinds.VarId.{VarId}
use Rattle.dk_base.specs.declared.values.Value.{Value}
use Rattle.dk_base.specs.declared.values.Value.TheVariants as value

-- the value of a variable in a sample; past the end of the sample it is missing
abbrev pub value_in : List Value → VarId → Value
value_in sample v = value_at sample v.0

-- whether a value isn't the missing one
abbrev pub is_present : Value → Bool
is_present value.Missing = false
is_present _ = true

-- two variables have the same value in each of the samples; the missing value is the same as itself alone
abbrev pub Agree : List (List Value) → VarId → VarId → Type 0
Agree samples v w = All (λ s. value_in s v ≡ value_in s w) samples
