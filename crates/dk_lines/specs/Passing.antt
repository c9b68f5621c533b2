-- Lines that are used where they lie.
use Rattle.std.specs.Prelude.{◌≡◌, ◌≢◌, ◌+◌, ◌++◌, ℕ, Bool, All, List, [], ◌∷◌, flat_map, length, map, min, take}
use Rattle.dk_base.specs.Reading.{Line}
use Rattle.dk_lines.specs.Left.{Left, Next, lines_left, without_cr}
use Rattle.dk_lines.specs.Reading.{Reading, room_of}

-- the bytes at hand, as far as no line in them is too long and not all lines together are
abbrev pub ready_of : Reading → List ℕ
ready_of r = take (min r.limits.line (room_of r)) r.ahead

-- the lines, each with its LF (10)
abbrev pub joined : List (List ℕ) → List ℕ
joined ls = flat_map (λ l. l ++ 10 ∷ []) ls

-- none of the bytes is LF
abbrev pub HasNoLf : List ℕ → Type 0
HasNoLf bytes = All (λ b. b ≢ 10) bytes

-- the bytes are these lines, each with its LF, and so many
pub record AreLines (ls : List (List ℕ)) (bytes : List ℕ) (count : ℕ) : Type 0 where
  pub all : joined ls ≡ bytes
  pub apart : All HasNoLf ls
  pub many : length ls ≡ count

-- lines with their numbers, the first of which is n
abbrev pub numbered_lines : ℕ → List (List ℕ) → List Line
numbered_lines n [] = []
numbered_lines n (l ∷ ls) = record { number = n; bytes = l } ∷ numbered_lines (n + 1) ls

-- lines in front of what is left
abbrev pub in_front : List Line → Left → Left
in_front [] rest = rest
in_front (l ∷ ls) rest = Next l (in_front ls rest)

-- The lines were read, whatever bytes follow them, and whether the file ends or is cut off behind these.
abbrev pub PassesLines : Reading → List (List ℕ) → Reading → Type 0
PassesLines old ls new = (is_ended : Bool) (ys : List ℕ)
    → lines_left old is_ended (joined ls ++ ys) ≡ in_front (numbered_lines (old.number + 1) (map without_cr ls)) (lines_left new is_ended ys)
