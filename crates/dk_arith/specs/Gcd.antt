-- The greatest common divisor.
use Rattle.std.specs.Prelude.{ℕ, zero, suc, ◌%◌, ◌==◌, if◌then◌else◌}

-- Euclid's, in at most n steps
abbrev pub gcd_within : ℕ → ℕ → ℕ → ℕ
gcd_within zero a b = a
gcd_within (suc n) a b = if b == 0 then a else gcd_within n b (a % b)

unfoldable pub gcd : ℕ → ℕ → ℕ
gcd a b = gcd_within (suc b) a b
