-- Entries that lie on a stack, the latest on top.
use Rattle.std.specs.Prelude.{◌==◌, ℕ, Bool, List, [], ◌∷◌, if◌then◌else◌}
use Rattle.dk_base.specs.declared.values.Value.{Value}

-- an entry without a nonce
pub record Plain : Type 0 where
  pub point : ℕ
  pub values : List Value

abbrev pub is_at : ℕ → Plain → Bool
is_at point w = w.point == point

-- what lies below the first that passes
abbrev pub below_first : (Plain → Bool) → List Plain → List Plain
below_first p [] = []
below_first p (w ∷ ws) = if p w then ws else below_first p ws
