-- The lines of a file, one after another, and how they end.
use Rattle.std.specs.Prelude.{◌≡◌, ◌+◌, ◌-◌, ◌&&◌, ◌||◌, ◌⊎◌, ◌++◌, ℕ, Bool, true, false, List, [], ◌∷◌, ◌==◌, length, map, nat_lt, nat_le, if◌then◌else◌}
use Rattle.std.specs.Io.BufRead.{strip_last}
use Rattle.dk_base.specs.Reading.{Line}
use Rattle.dk_lines.specs.Reading.{Reading, room_of}

-- The file ends in front of the line of this number; or it was cut off, and no more is known; or this line has a byte too many; or the
-- files have one, which is in this line.
pub data End : Type 0 where
  Over : (line : ℕ) → End
  Broken : End
  LongLine : (line : ℕ) → End
  TooLong : (line : ℕ) → End

-- lines, and then how they end
pub data Left : Type 0 where
  Ends : (end : End) → Left
  Next : (line : Line) → (rest : Left) → Left

-- the bytes in front of an LF (10), or behind the last
pub record Piece : Type 0 where
  pub bytes : List ℕ
  pub has_lf : Bool

-- a byte in front of the first piece
abbrev pub onto_first : ℕ → List Piece → List Piece
onto_first b [] = record { bytes = b ∷ []; has_lf = false } ∷ []
onto_first b (p ∷ ps) = record { bytes = b ∷ p.bytes; has_lf = p.has_lf } ∷ ps

-- Bytes are cut at each LF. Bytes behind the last are a piece, if there are any.
abbrev pub pieces : List ℕ → List Piece
pieces [] = []
pieces (b ∷ bs) = if b == 10 then record { bytes = []; has_lf = true } ∷ pieces bs else onto_first b (pieces bs)

-- how many bytes a piece has with its LF
abbrev pub size_of : Piece → ℕ
size_of p = length p.bytes + (if p.has_lf then 1 else 0)

-- without one CR (13) at the end
abbrev pub without_cr : List ℕ → List ℕ
without_cr bytes = strip_last 13 bytes

-- the lines of a file
abbrev pub lines_of : List ℕ → List (List ℕ)
lines_of bytes = map (λ (p : Piece). without_cr p.bytes) (pieces bytes)

-- these lines, numbered on from n, up to the file's end
abbrev pub numbered : ℕ → List (List ℕ) → Left
numbered n [] = Ends (Over (n + 1))
numbered n (l ∷ ls) = Next (record { number = n + 1; bytes = l }) (numbered (n + 1) ls)

-- A piece has more than the limit's bytes, and the first of them that is too many is within the room or just behind it.
abbrev pub is_long : ℕ → ℕ → Piece → Bool
is_long limit room p = nat_lt limit (length p.bytes) && nat_le limit room

-- the room ends within a piece
abbrev pub is_over : ℕ → Piece → Bool
is_over room p = nat_lt room (size_of p)

-- The lines of pieces where n lines stand before them and room bytes may still come. A piece without an LF is a line where the file is
-- ended, and none where it was cut off.
abbrev pub lined_by : ℕ → ℕ → Bool → ℕ → List Piece → Left
lined_by limit room is_ended n [] = Ends (if is_ended then Over (n + 1) else Broken)
lined_by limit room is_ended n (p ∷ ps) =
    if is_long limit room p then Ends (LongLine (n + 1))
    else if is_over room p then Ends (TooLong (n + 1))
    else if p.has_lf || is_ended
    then Next (record { number = n + 1; bytes = without_cr p.bytes }) (lined_by limit (room - size_of p) is_ended (n + 1) ps)
    else Ends Broken

-- the lines of bytes that are left of an ended file, or of one that was cut off
unfoldable pub lined : ℕ → ℕ → ℕ → Bool → List ℕ → Left
lined limit room n is_ended bytes = lined_by limit room is_ended n (pieces bytes)

abbrev pub lines_left : Reading → Bool → List ℕ → Left
lines_left r is_ended bytes = lined r.limits.line (room_of r) r.number is_ended bytes

-- A line was read: it stood at the front of what was left, and the bytes ys follow it. Where the file is cut off behind it, what is left of
-- ys follows it too; but the last line of an ended file, which no LF ends, and which nothing follows, is then none.
pub record OneLine (old : Reading) (xs : List ℕ) (line : Line) (new : Reading) (ys : List ℕ) : Type 0 where
  pub front : List ℕ
  pub split : xs ≡ front ++ ys
  pub total : new.total ≡ old.total + length front
  pub room : room_of new ≡ room_of old - length front
  pub ended : lines_left old true xs ≡ Next line (lines_left new true ys)
  pub cut : (d rest : List ℕ) → ys ≡ d ++ rest →
      (lines_left old false (front ++ d) ≡ Next line (lines_left new false d))
      ⊎ ((ys ≡ []) × (lines_left old false (front ++ d) ≡ Ends Broken))
