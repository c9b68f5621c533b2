-- The entries with a nonce, by their point and nonce.
use Rattle.std.specs.Prelude.{◌&&◌, ℕ, ℤ, Bool, List, [], Option, Some, None, nat_eq, reverse}
use Rattle.std.specs.Ordering.{int_eq}
use Rattle.std.specs.Global.{Vec}
use Rattle.indexmap.specs.IndexMap.{get}
use Rattle.dk_base.specs.declared.values.Value.{Value}
use Rattle.dk_calls.specs.declared.nonces.Nonces.{Nonces}

abbrev pub same_key : ℕ × ℤ → ℕ × ℤ → Bool
same_key a b = nat_eq a.0 b.0 && int_eq a.1 b.1

-- what is kept of a point and a nonce, the latest first
abbrev pub latest_first : Option (Vec (List Value)) → List (List Value)
latest_first None = []
latest_first (Some entries) = reverse entries.items

-- the values of the waiting entries of a point and a nonce, the latest first
unfoldable pub values_under : ℕ → ℤ → Nonces → List (List Value)
values_under point n t = latest_first (get same_key t.table (point, n))
