-- Patterns: which leaders are present in samples, and in how many samples.
use Rattle.std.specs.Prelude.{◌≡◌, ◌<◌, ◌==◌, ◌&&◌, ◌-◌, ◌^◌, ℕ, Bool, true, false, All, List, [], ◌∷◌, filter, map, min, sum_by, count_by, if◌then◌else◌}
use Rattle.std.specs.List.{IsDistinct, list_all, list_any}
use Rattle.dk_base.specs.declared.kinds.VarId.{VarId}
use Rattle.dk_base.specs.declared.values.Value.{Value}
use Rattle.dk_samples.specs.Leaders.{VarsAscend}
use Rattle.dk_samples.specs.Samples.{is_present, value_in}
use Rattle.dk_presence.specs.declared.held.Held.{Held}

-- whether the variable is one of them
abbrev pub has : List VarId → VarId → Bool
has vars v = list_any (λ w. w.0 == v.0) vars

-- whether each of the variables is one of them
abbrev pub has_all : List VarId → List VarId → Bool
has_all vars all = list_all (has vars) all

-- the same variables in the same order
abbrev pub same_vars : List VarId → List VarId → Bool
same_vars [] [] = true
same_vars [] (w ∷ ws) = false
same_vars (v ∷ vs) [] = false
same_vars (v ∷ vs) (w ∷ ws) = v.0 == w.0 && same_vars vs ws

-- numbers of samples end at 2^64 - 1
abbrev pub capped : ℕ → ℕ
capped n = min n (2 ^ 64 - 1)

-- the pattern of a sample: the leaders that are present in it
abbrev pub present_in : List VarId → List Value → List VarId
present_in leaders sample = filter (λ v. is_present (value_in sample v)) leaders

-- the patterns of samples, one after another
abbrev pub patterns_of : List VarId → List (List Value) → List (List VarId)
patterns_of leaders samples = map (present_in leaders) samples

-- how often a pattern stands in a list
abbrev pub times : List VarId → List (List VarId) → ℕ
times pattern patterns = count_by (same_vars pattern) patterns

-- the leaders of each pattern that is held
abbrev pub held_patterns : List Held → List (List VarId)
held_patterns held = map (λ h. h.leaders) held

-- the count that is held with a pattern, or 0
abbrev pub pattern_count : List Held → List VarId → ℕ
pattern_count [] pattern = 0
pattern_count (h ∷ held) pattern = if same_vars h.leaders pattern then h.count else pattern_count held pattern

-- each pattern once, with its leaders ascending and a count above 0
pub record AreHeld (held : List Held) : Type 0 where
  pub once : IsDistinct same_vars (held_patterns held)
  pub some : All (λ h. 0 < h.count) held
  pub ascend : All (λ h. VarsAscend h.leaders) held

-- each of the patterns is held with the number of times that it stands in the list, and no other is held
abbrev pub AreCounted : List (List VarId) → List Held → Type 0
AreCounted patterns held = (pattern : List VarId) → pattern_count held pattern ≡ capped (times pattern patterns)

-- the number of samples in which all of these variables are present
abbrev pub count_of : List VarId → List (List Value) → ℕ
count_of vars samples = capped (count_by (λ s. list_all (λ v. is_present (value_in s v)) vars) samples)

-- the sum of the counts of the patterns that have all of these leaders
abbrev pub counted_by : List Held → List VarId → ℕ
counted_by held vars = capped (sum_by (λ h. if has_all h.leaders vars then h.count else 0) held)
