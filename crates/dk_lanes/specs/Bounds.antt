-- The least and the greatest number of a sequence.
use Rattle.std.specs.Prelude.{ℤ, List, [], ◌∷◌, fold, Option, Some, None}
use Rattle.std.specs.Int.{int_min, int_max}

-- both, where there is a number
abbrev pub bounds_of : List ℤ → Option (ℤ × ℤ)
bounds_of [] = None
bounds_of (x ∷ xs) = Some (fold int_min x xs, fold int_max x xs)
