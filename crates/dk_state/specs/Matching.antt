-- Bytes that are held against a text piece by piece.
use Rattle.std.specs.Prelude.{ℕ, ◌==◌, Bool, true, false, List, [], ◌∷◌, Option, Some, None, option_and_then, if◌then◌else◌}

-- what is left of bytes behind a text with which they begin
abbrev pub behind : List ℕ → List ℕ → Option (List ℕ)
behind [] bytes = Some bytes
behind (b ∷ text) [] = None
behind (b ∷ text) (c ∷ bytes) = if b == c then behind text bytes else None

-- and of what was left of bytes, if anything was
abbrev pub left_behind : List ℕ → Option (List ℕ) → Option (List ℕ)
left_behind text left = option_and_then (behind text) left

-- the bytes end here
abbrev pub is_end : Option (List ℕ) → Bool
is_end (Some []) = true
is_end _ = false
