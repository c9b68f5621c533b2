-- What the answers of a selection come to.
use Rattle.std.specs.Prelude.{◌≡◌, ℕ, Bool, List}
use Rattle.std.specs.Borrow.{Bor}

-- the predicate answers by a test of the name alone
abbrev pub SelectsBy : (Bor (List ℕ) → Bool → Type 0) → (List ℕ → Bool) → Type 0
SelectsBy answers selects = (name : Bor (List ℕ)) (answer : Bool) → answers name answer → answer ≡ selects name.now
