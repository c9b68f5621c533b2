-- The halves of samples by a Bool.
use Rattle.std.specs.Prelude.{Bool, false, List, filter}
use Rattle.std.specs.Bool.{beq}
use Rattle.dk_base.specs.declared.kinds.VarId.{VarId}
use Rattle.dk_base.specs.declared.values.Value.{Value}
use Rattle.dk_base.specs.declared.values.Value.TheVariants as value
use Rattle.dk_samples.specs.Samples.{value_in}

-- the value is this truth value
abbrev pub is_truth : Bool → Value → Bool
is_truth truth (value.Bool b) = beq b truth
is_truth truth _ = false

-- the samples in which the Bool is true, or those in which it is false; one in which it is missing is in neither half
abbrev pub half_of : List (List Value) → VarId → Bool → List (List Value)
half_of samples b truth = filter (λ s. is_truth truth (value_in s b)) samples
