-- What the definitions of constants come to.
use Rattle.std.specs.Prelude.{◌≡◌, ◌↔◌, List, []}
use Rattle.std.specs.Option.{option_or}
use Rattle.dk_base.specs.declared.kinds.VarId.{VarId}
use Rattle.dk_base.specs.declared.values.Value.{Value}
use Rattle.dk_samples.specs.Leaders.{old_of}
use Rattle.dk_constants.specs.Constants.{AreConstants, AreFed}
use Rattle.dk_constants.specs.Known.{Entries, known_at}

-- the constants of samples are one list
abbrev pub ConstantsAreDetermined : Type 0
ConstantsAreDetermined =
    (leaders : List VarId) (samples : List (List Value)) (known others : Entries)
    → AreConstants leaders samples known → AreConstants leaders samples others → known ≡ others

-- of no samples there are none
abbrev pub NoSamplesHaveNone : Type 0
NoSamplesHaveNone = (leaders : List VarId) (known : Entries) → AreConstants leaders [] known ↔ (known ≡ [])

-- what was known of a variable's old leader is what is still known of the variable, or what ended
abbrev pub KnownBefore : Type 0
KnownBefore =
    (known : Entries) (new : List (VarId × VarId)) (sample : List Value) (still over : Entries) → AreFed known new sample still over
    → (v : VarId) → known_at known (old_of new v) ≡ option_or (known_at still v) (known_at over v)
