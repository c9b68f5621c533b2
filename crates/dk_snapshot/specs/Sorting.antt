-- Lists in ascending order.
use Rattle.std.specs.Prelude.{List, [], ◌∷◌, if◌then◌else◌}
use Rattle.std.specs.Ordering.{is_gt}
use Rattle.std.specs.declared.cmp.Ordering.{Ordering}

module _ {X : Type 0} (R : X → X → Ordering) where
  -- an item in front of the first one that isn't less
  abbrev pub put : X → List X → List X
  put x [] = x ∷ []
  put x (y ∷ ys) = if is_gt (R x y) then y ∷ put x ys else x ∷ y ∷ ys

  -- the items, each as often as it stands there, ascending
  abbrev pub ascending : List X → List X
  ascending [] = []
  ascending (x ∷ xs) = put x (ascending xs)
