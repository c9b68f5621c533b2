-- Constant leaders: those that have one value in all samples. The missing value is a value.
use Rattle.std.specs.Prelude.{◌≡◌, ◌≢◌, ◌↔◌, ◌<◌, All, Contains, List, Some, IsSome, length, ◌⊎◌}
use Rattle.dk_base.specs.declared.kinds.VarId.{VarId}
use Rattle.dk_base.specs.declared.values.Value.{Value}
use Rattle.dk_samples.specs.Leaders.{old_of}
use Rattle.dk_samples.specs.Samples.{value_in}
use Rattle.dk_constants.specs.Known.{EntriesAscend, known_at}

-- the variable has the value in each of the samples, of which there are some
pub record HasAlways (samples : List (List Value)) (v : VarId) (x : Value) : Type 0 where
  pub some : 0 < length samples
  pub each : All (λ s. value_in s v ≡ x) samples

-- the constant leaders of these samples, ascending, each with its value; of no samples there are none
pub record AreConstants (leaders : List VarId) (samples : List (List Value)) (known : List (VarId × Value)) : Type 0 where
  pub ascend : EntriesAscend known
  pub each : (v : VarId) (x : Value) → (known_at known v ≡ Some x) ↔ (Contains leaders v × HasAlways samples v x)

-- the leaders that were constant in these samples and are not with one sample more, ascending, each with the value that it had
pub record HaveEnded (leaders : List VarId) (samples : List (List Value))
    (sample : List Value) (ended : List (VarId × Value)) : Type 0 where
  pub ascend : EntriesAscend ended
  pub each : (v : VarId) (x : Value) → (known_at ended v ≡ Some x) ↔ (Contains leaders v × HasAlways samples v x × (value_in sample v ≢ x))

-- What a sample makes of constants: each of them, and each new leader of which the old one was constant, stays constant where the
-- sample has its value, and else has ended.
pub record AreFed (known : List (VarId × Value)) (new : List (VarId × VarId))
    (sample : List Value) (still over : List (VarId × Value)) : Type 0 where
  pub still_ascend : EntriesAscend still
  pub over_ascend : EntriesAscend over
  pub stays : (v : VarId) (x : Value) → known_at still v ≡ Some x → (known_at known (old_of new v) ≡ Some x) × (value_in sample v ≡ x)
  pub ended : (v : VarId) (x : Value) → known_at over v ≡ Some x → (known_at known (old_of new v) ≡ Some x) × (value_in sample v ≢ x)
  pub each : (v : VarId) → IsSome (known_at known (old_of new v)) → IsSome (known_at still v) ⊎ IsSome (known_at over v)
