-- What halves come to.
use Rattle.std.specs.Prelude.{◌≡◌, ◌↔◌, ◌++◌, Bool, Contains, List, [], ◌∷◌, if◌then◌else◌}
use Rattle.dk_base.specs.declared.kinds.VarId.{VarId}
use Rattle.dk_base.specs.declared.values.Value.{Value}
use Rattle.dk_base.specs.declared.values.Value.TheVariants as value
use Rattle.dk_samples.specs.Samples.{value_in}
use Rattle.dk_implications.specs.Halves.{half_of, is_truth}

-- A half has just the samples in which the Bool has its truth value. So none is in both, and one in which it is missing is in neither.
abbrev pub HalvesHaveTheirSamples : Type 0
HalvesHaveTheirSamples =
    (samples : List (List Value)) (b : VarId) (truth : Bool) (s : List Value)
    → Contains (half_of samples b truth) s ↔ (Contains samples s × (value_in s b ≡ value.Bool truth))

-- a sample more is one of at most one half
abbrev pub HalvesGrowOneByOne : Type 0
HalvesGrowOneByOne =
    (samples : List (List Value)) (b : VarId) (truth : Bool) (s : List Value)
    → half_of (samples ++ s ∷ []) b truth
    ≡ (if is_truth truth (value_in s b) then half_of samples b truth ++ s ∷ [] else half_of samples b truth)
