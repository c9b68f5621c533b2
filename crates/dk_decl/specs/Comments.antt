-- Comments.
use Rattle.std.specs.Prelude.{◌||◌, ℕ, Bool, List, codes, nat_eq}
use Rattle.std.specs.List.{starts_with}

-- a line that begins with `#` or `//`
unfoldable pub is_comment : List ℕ → Bool
is_comment bytes = starts_with nat_eq bytes (codes "#") || starts_with nat_eq bytes (codes "//")
