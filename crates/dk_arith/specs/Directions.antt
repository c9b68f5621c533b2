-- Directions of whole numbers.
use Rattle.std.specs.Prelude.{◌≡◌, ℕ, ℤ, pos, ◌*ℤ◌, ◌<ℤ◌, neg_ℤ, unsigned_abs, int_div, int_lt, if◌then◌else◌, ◌⊎◌}
use Rattle.std.specs.Ordering.{int_eq}
use Rattle.dk_arith.specs.Gcd.{gcd}

-- the first of the three that isn't 0
abbrev pub leading : ℤ → ℤ → ℤ → ℤ
leading p q r = if int_eq p (pos 0) then (if int_eq q (pos 0) then r else q) else p

abbrev pub gcd_of_three : ℤ → ℤ → ℤ → ℕ
gcd_of_three p q r = gcd (gcd (unsigned_abs p) (unsigned_abs q)) (unsigned_abs r)

abbrev pub signed_as : ℤ → ℤ → ℤ
signed_as like size = if int_lt like (pos 0) then neg_ℤ size else size

-- the greatest common divisor, with the sign of the first that isn't 0
unfoldable pub divisor : ℤ → ℤ → ℤ → ℤ
divisor p q r = signed_as (leading p q r) (pos (gcd_of_three p q r))

pub record IsNormal3 (a b c : ℤ) : Type 0 where
  pub lowest : gcd_of_three a b c ≡ 1
  pub sign : (pos 0 <ℤ a) ⊎ ((a ≡ pos 0) × ((pos 0 <ℤ b) ⊎ ((b ≡ pos 0) × (pos 0 <ℤ c))))

-- the directions are alike, up to a factor
pub record Parallel (a b c a' b' c' : ℤ) : Type 0 where
  pub xy : a *ℤ b' ≡ a' *ℤ b
  pub xz : a *ℤ c' ≡ a' *ℤ c
  pub yz : b *ℤ c' ≡ b' *ℤ c

-- a direction across a line, in lowest terms, the first part that isn't 0 positive
pub record IsNormal (a b : ℤ) : Type 0 where
  pub lowest : gcd (unsigned_abs a) (unsigned_abs b) ≡ 1
  pub sign : (pos 0 <ℤ a) ⊎ ((a ≡ pos 0) × (pos 0 <ℤ b))

-- a direction in lowest terms
abbrev pub in_lowest : ℤ × ℤ × ℤ → ℤ × ℤ × ℤ
in_lowest k = (int_div k.0 (divisor k.0 k.1 k.2), int_div k.1 (divisor k.0 k.1 k.2), int_div k.2 (divisor k.0 k.1 k.2))
