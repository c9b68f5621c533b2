-- What the lines of a file come to, in the words of the format.
use Rattle.std.specs.Prelude.{◌≡◌, ◌≤◌, ℕ, All, true, List, length}
use Rattle.dk_lines.specs.Left.{lined, lines_of, numbered, pieces}

-- An ended file whose lines and bytes keep the limits has its lines, numbered one after another, and nothing else.
abbrev pub WholeFileHasItsLines : Type 0
WholeFileHasItsLines = (limit room n : ℕ) (bytes : List ℕ) → All (λ p. length p.bytes ≤ limit) (pieces bytes) → length bytes ≤ room
    → lined limit room n true bytes ≡ numbered n (lines_of bytes)
