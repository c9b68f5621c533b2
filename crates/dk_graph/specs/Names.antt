-- Names in a row.
use Rattle.std.specs.Prelude.{◌≡◌, ℕ, List, Option, Some, bytes_eq, position, slice_get}

-- the place of a name among names
unfoldable pub place_of : List (List ℕ) → List ℕ → Option ℕ
place_of all name = position (bytes_eq name) all

-- no two are the same: each name is found at its own place
abbrev pub AreDifferent : List (List ℕ) → Type 0
AreDifferent all = (i : ℕ) (name : List ℕ) → slice_get all i ≡ Some name → place_of all name ≡ Some i
