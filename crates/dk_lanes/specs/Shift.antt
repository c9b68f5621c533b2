-- By how much the elements of one sequence are above those of another.
use Rattle.std.specs.Prelude.{◌<◌, ◌^◌, unsigned_abs, ℤ, ◌-ℤ◌, ◌==◌, Bool, if◌then◌else◌, List, [], ◌∷◌, length, map, zip}
use Rattle.std.specs.Int.{w64, int_wrapping_sub}
use Rattle.std.specs.List.{list_all}
use Rattle.std.specs.Ordering.{int_eq}
use Rattle.dk_lanes.specs.declared.offsets.Shift.{Shift}
use Rattle.dk_lanes.specs.declared.offsets.Shift.TheVariants.{Unequal, Empty, Const}

-- by how much each element of t is above its partner in s
abbrev pub differences : List ℤ → List ℤ → List ℤ
differences s t = map (λ (p : ℤ × ℤ). p.1 -ℤ p.0) (zip s t)

-- the number that all of them are, if there is one
abbrev pub common_difference : List ℤ → Shift
common_difference [] = Empty
common_difference (d ∷ ds) = if list_all (int_eq d) ds then Const d else Unequal

-- the common difference of sequences of one length
abbrev pub shift_of : List ℤ → List ℤ → Shift
shift_of s t = if length s == length t then common_difference (differences s t) else Unequal

-- the difference of two numbers of 64 bits is this near to 0
abbrev pub IsBounded : Shift → Type 0
IsBounded (Const k) = unsigned_abs k < 2 ^ 64
IsBounded _ = Unit {0}

-- each element of t is d above its partner in s
abbrev pub are_above_by : ℤ → List ℤ → List ℤ → Bool
are_above_by d s t = list_all (λ (p : ℤ × ℤ). int_eq d (p.1 -ℤ p.0)) (zip s t)

-- the same, where numbers of 64 bits wrap round
abbrev pub wrap_to : ℤ → List ℤ → List ℤ → Bool
wrap_to k s t = list_all (λ (p : ℤ × ℤ). int_eq (int_wrapping_sub w64 p.1 p.0) k) (zip s t)
