-- The places of a point's entries on the stack.
use Rattle.std.specs.Prelude.{◌≡◌, ◌==◌, ℕ, suc, List, [], ◌∷◌, drop, length, map, reverse, slice_get, nat_eq, Option, Some, None, if◌then◌else◌}
use Rattle.indexmap.specs.IndexMap.{IndexMap, get}
use Rattle.dk_calls.specs.Stacks.{Plain}
use Rattle.dk_calls.specs.declared.stack.Placed.{Placed}

abbrev pub plain_of : Placed → Plain
plain_of w = record { point = w.point; values = w.values }

-- the stack, the latest first
abbrev pub stack_of : List Placed → List Plain
stack_of entries = map plain_of (reverse entries)

-- the place of the latest entry of the point, counted from the bottom
abbrev pub last_place : ℕ → List Placed → Option ℕ
last_place point [] = None
last_place point (w ∷ ws) = if w.point == point then Some (length ws) else last_place point ws

-- each entry has the place of the latest one of its point below it
abbrev pub IsLinked : List Placed → Type 0
IsLinked ws = (i : ℕ) (w : Placed) → slice_get ws i ≡ Some w → w.below ≡ last_place w.point (drop (suc i) ws)

pub record IsStack {S : Type 0} (entries : List Placed) (latest : IndexMap ℕ ℕ S) : Type 0 where
  pub linked : IsLinked (reverse entries)
  pub latest_are : (point : ℕ) → get nat_eq latest point ≡ last_place point (reverse entries)
