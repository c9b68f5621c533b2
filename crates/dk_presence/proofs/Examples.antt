-- Small examples, computed from the definitions.
use Rattle.std.proofs.Common.{◌≡◌, ◌∷◌, [], ◌-◌, ◌^◌, ℕ, List, pos, refl}
use Rattle.dk_base.specs.declared.kinds.VarId.{VarId}
use Rattle.dk_base.specs.declared.values.Value.{Value}
use Rattle.dk_base.specs.declared.values.Value.TheVariants as value
use Rattle.dk_presence.specs.declared.held.Held.{Held}
use Rattle.dk_presence.specs.Patterns.{capped, count_of, counted_by, pattern_count, patterns_of, present_in, times}
use Rattle.dk_presence.specs.Steps.{refined, with_sample_of}

var : ℕ → VarId
var n = record { 0 = n }

int : ℕ → Value
int n = value.Int (pos n)

held : ℕ → List VarId → Held
held n leaders = record { count = n; leaders = leaders }

-- three samples of three numbers, and their patterns
samples : List (List Value)
samples = (int 1 ∷ int 1 ∷ int 1 ∷ []) ∷ (int 2 ∷ int 2 ∷ int 5 ∷ []) ∷ (int 3 ∷ value.Missing ∷ int 5 ∷ []) ∷ []

leaders : List VarId
leaders = var 0 ∷ var 1 ∷ var 2 ∷ []

patterns : List Held
patterns = held 2 leaders ∷ held 1 (var 0 ∷ var 2 ∷ []) ∷ []

-- the second number is missing in the third sample
missing : present_in leaders (int 3 ∷ value.Missing ∷ int 5 ∷ []) ≡ var 0 ∷ var 2 ∷ []
unfolding leaders var int
missing = refl

all_three : pattern_count patterns leaders ≡ capped (times leaders (patterns_of leaders samples))
unfolding patterns held samples leaders var int
all_three = refl

first_two : counted_by patterns (var 0 ∷ var 1 ∷ []) ≡ count_of (var 0 ∷ var 1 ∷ []) samples
unfolding patterns held samples leaders var int
first_two = refl

no_leaders : counted_by patterns [] ≡ 3
unfolding patterns held leaders var
no_leaders = refl

-- the new leader goes to its place
new_leader : refined ((var 1, var 0) ∷ []) (held 2 (var 0 ∷ var 2 ∷ [])) ≡ held 2 leaders
unfolding held leaders var
new_leader = refl

-- a sample more, of a pattern that is held and of another
known : with_sample_of (var 0 ∷ var 2 ∷ []) patterns ≡ held 2 leaders ∷ held 2 (var 0 ∷ var 2 ∷ []) ∷ []
unfolding patterns held leaders var
known = refl

unknown : with_sample_of [] patterns ≡ held 2 leaders ∷ held 1 (var 0 ∷ var 2 ∷ []) ∷ held 1 [] ∷ []
unfolding patterns held leaders var
unknown = refl

most : with_sample_of [] (held (2 ^ 64 - 1) [] ∷ []) ≡ held (2 ^ 64 - 1) [] ∷ []
unfolding held
most = refl
