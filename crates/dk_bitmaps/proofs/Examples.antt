-- Small examples, computed from the definitions.
use Rattle.std.proofs.Common.{◌≡◌, ◌∷◌, [], ℕ, List, false, refl, true}
use Rattle.dk_base.specs.declared.kinds.VarId.{VarId}
use Rattle.dk_bitmaps.specs.Bitmaps.{block_at, digits, is_one_at}
use Rattle.dk_presence.specs.Patterns.{has}
use Rattle.dk_presence.specs.declared.held.Held.{Held}

var : ℕ → VarId
var n = record { 0 = n }

held : ℕ → List VarId → Held
held n leaders = record { count = n; leaders = leaders }

patterns : List Held
patterns = held 1 (var 0 ∷ var 1 ∷ []) ∷ held 2 (var 0 ∷ []) ∷ held 5 (var 1 ∷ []) ∷ []

-- the first and the third of three patterns have the variable
has_one : digits (λ h. has h.leaders (var 1)) (block_at patterns 0) ≡ 5
unfolding var held patterns
has_one = refl

-- there are no patterns in a second word
none_left : digits (λ h. has h.leaders (var 1)) (block_at patterns 1) ≡ 0
unfolding var held patterns
none_left = refl

-- five is 101
last : is_one_at 0 5 ≡ true
last = refl

second : is_one_at 1 5 ≡ false
second = refl

third : is_one_at 2 5 ≡ true
third = refl
