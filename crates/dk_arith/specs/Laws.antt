-- What the definitions of divisors and directions come to.
use Rattle.std.specs.Prelude.{◌≡◌, ◌*ℤ◌, ℕ, ℤ, pos}
use Rattle.std.specs.Int.{IsGcd}
use Rattle.dk_arith.specs.Directions.{IsNormal3, divisor, in_lowest}
use Rattle.dk_arith.specs.Gcd.{gcd}

-- a greatest common divisor divides both numbers, and each number that divides both divides it
abbrev pub GcdsAreGreatest : Type 0
GcdsAreGreatest = (a b : ℕ) → IsGcd a b (gcd a b)

-- a direction isn't that of no length
abbrev pub HasLength : ℤ × ℤ × ℤ → Type 0
HasLength k = (k.0 ≡ pos 0) × (k.1 ≡ pos 0) × (k.2 ≡ pos 0) → ⊥

-- in lowest terms the parts of a direction have no common divisor, and the first that isn't 0 is positive
abbrev pub LowestTermsAreNormal : Type 0
LowestTermsAreNormal = (k : ℤ × ℤ × ℤ) → HasLength k → IsNormal3 (in_lowest k).0 (in_lowest k).1 (in_lowest k).2

-- and each is the divisor's part of the part that it was taken from
abbrev pub LowestTermsAreParts : Type 0
LowestTermsAreParts =
    (k : ℤ × ℤ × ℤ) → HasLength k
    → ((in_lowest k).0 *ℤ divisor k.0 k.1 k.2 ≡ k.0)
    × ((in_lowest k).1 *ℤ divisor k.0 k.1 k.2 ≡ k.1) × ((in_lowest k).2 *ℤ divisor k.0 k.1 k.2 ≡ k.2)
