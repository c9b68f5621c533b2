-- The form modulus: the remainder that the values share by the greatest common divisor of their differences.
use Rattle.std.specs.Prelude.{[], ℕ, ◌<◌, ◌≤◌, ◌==◌, ℤ, pos, ◌-ℤ◌, unsigned_abs, List, ◌∷◌, map, if◌then◌else◌}
use Rattle.std.specs.Int.{int_rem_euclid}
use Rattle.dk_forms.specs.Known.{Known, both, broken, fact, nothing}
use Rattle.dk_arith.specs.Gcd.{gcd}
use Rattle.dk_forms.specs.declared.states.State.{State}
use Rattle.dk_forms.specs.declared.states.State.TheVariants.{Empty, Broken, One, Modulus}

-- how far two numbers are apart
abbrev pub apart : ℤ → ℤ → ℕ
apart x y = unsigned_abs (x -ℤ y)

-- what is left of x by a modulus, and x itself by the modulus 0
unfoldable pub remainder : ℕ → ℤ → ℤ
remainder m x = if m == 0 then x else int_rem_euclid x (pos m)

-- the numbers that are x by the modulus m; the modulus 1 says nothing
unfoldable pub class : ℕ → ℤ → Known (ℕ × ℤ)
class m x = if m == 1 then broken else fact (m, remainder m x)

-- the greatest common divisor of three numbers
abbrev pub gcd3 : ℕ → ℕ → ℕ → ℕ
gcd3 a b c = gcd (gcd a b) c

abbrev pub class_meet : ℕ × ℤ → ℕ × ℤ → Known (ℕ × ℤ)
class_meet a b = class (gcd3 a.0 b.0 (apart a.1 b.1)) a.1

abbrev pub gcd_of_all : List ℕ → ℕ
gcd_of_all [] = 0
gcd_of_all (d ∷ ds) = gcd d (gcd_of_all ds)

-- the greatest modulus by which the values are alike, with their remainder
abbrev pub class_of : List ℤ → Known (ℕ × ℤ)
class_of [] = nothing
class_of (x ∷ xs) = class (gcd_of_all (map (apart x) xs)) x

-- ---- the modulus that the numbers share
abbrev pub IsModulusState : State → Type 0
IsModulusState Empty = Unit {0}
IsModulusState Broken = Unit {0}
IsModulusState (One v) = Unit {0}
IsModulusState (Modulus m r) = (2 ≤ m) × (r < m)
IsModulusState _ = ⊥

abbrev pub modulus_known : State → Known (ℕ × ℤ)
modulus_known Empty = nothing
modulus_known (One v) = fact (0, v)
modulus_known (Modulus m r) = fact (m, pos r)
modulus_known _ = broken

abbrev pub modulus_state : Known (ℕ × ℤ) → State
modulus_state nothing = Empty
modulus_state broken = Broken
modulus_state (fact a) = if a.0 == 0 then One a.1 else Modulus a.0 (unsigned_abs a.1)

abbrev pub modulus_join : State → State → State
modulus_join a b = modulus_state (both class_meet (modulus_known a) (modulus_known b))

abbrev pub modulus_of : List ℤ → State
modulus_of values = modulus_state (class_of values)
