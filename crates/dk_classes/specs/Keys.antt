-- The keys by which a new leader is found.
use Rattle.std.specs.Prelude.{◌≡◌, ◌≢◌, ◌++◌, ℕ, Bool, true, All, Contains, List, MatchOption, Option}
use Rattle.std.specs.Int.{to_le_bytes, w32}
use Rattle.std.specs.List.{list_any}
use Rattle.std.specs.Str.{bytes_eq}
use Rattle.std.specs.Global.{Vec}
use Rattle.dk_base.specs.Values.Spelling.{spelling}
use Rattle.dk_base.specs.declared.kinds.VarId.{VarId}
use Rattle.dk_base.specs.declared.values.Value.{Value}
use Rattle.dk_samples.specs.Samples.{value_in}

-- the key of a value out of an old class: how the value is spelled, and then the old leader's number in four bytes
abbrev pub key_of : VarId → Value → List ℕ
key_of old value = spelling value ++ to_le_bytes w32 old.0

-- whether the key is among these
abbrev pub has_key : List (Vec ℕ) → List ℕ → Bool
has_key keys key = list_any (λ k. bytes_eq key k.items) keys

-- each new leader's key is among these
abbrev pub HaveKeys : List Value → List (VarId × VarId) → List (Vec ℕ) → Type 0
HaveKeys sample new keys = All (λ n. has_key keys (key_of n.1 (value_in sample n.0)) ≡ true) new

-- the new leader out of an old class that has the value in the sample, or none where there is none
abbrev pub FindsLike : List (VarId × VarId) → List Value → VarId → Value → Option VarId → Type 0
FindsLike new sample old value found =
    MatchOption found (All (λ n. n.1 ≡ old → value_in sample n.0 ≢ value) new) (λ w. Contains new (w, old) × (value_in sample w ≡ value))
