-- The lines of the groups of a file.
use Rattle.std.proofs.Common.{◌≡◌, ◌+◌, ◌-◌, ◌≤◌, ◌<◌, ◌^◌, ◌||◌, ◌==◌, ℕ, zero, suc, Bool, true, false, not, List, [], ◌∷◌, All, length, refl, ap, arith, take, if◌then◌else◌}
use Rattle.std.proofs.lemmas.List.{length-take}
use Rattle.std.specs.Io.BufRead.{ends_with_byte}
use Rattle.std.proofs.lemmas.List.Elements.{All-cons, All-head, All-nil, All-tail}
use Rattle.dk_base.specs.Reading.{Line}
use Rattle.dk_lines.specs.Left.{Over, Broken, LongLine, TooLong, Left, Ends, Next, Piece, is_long, is_over, lined, lined_by, onto_first, pieces, size_of, without_cr}
use Rattle.dk_blocks.specs.Blocks.{Group, Groups, Last, groups_of, is_blank_line, onto_group, trimmed_line}
use Rattle.dk_write.specs.Names.{has_none}
use Rattle.dk_core.proofs.GivenEdges.{HasNoLf}
use Rattle.dk_core.proofs.GivenVars.{IsLineSpelled}
use Rattle.dk_core.proofs.Short.{IsShortLine, trimmed_few}
use Rattle.dk_core.proofs.Spelled.{both, left, right, spelled_trimmed}

-- ---- pieces
record IsPiece (p : Piece) : Type 0 where
  none : has_none 10 p.bytes ≡ true
  some : 1 ≤ size_of p

first_piece : (b : ℕ) (ps : List Piece) → not (b == 10) ≡ true → All IsPiece ps → All IsPiece (onto_first b ps)
first_piece b [] lf all = All-cons IsPiece (record { bytes = b ∷ []; has_lf = false }) [] (record { none = both _ _ lf refl; some = omega arith }) (All-nil IsPiece)
first_piece b (p ∷ ps) lf all =
    let own = All-head IsPiece p ps all in
    All-cons IsPiece (record { bytes = b ∷ p.bytes; has_lf = p.has_lf }) ps (record { none = both _ _ lf own.none; some = omega arith }) (All-tail IsPiece p ps all)

are_pieces : (bs : List ℕ) → All IsPiece (pieces bs)
are_pieces [] = All-nil IsPiece
are_pieces (b ∷ bs) = by (b == 10) refl (are_pieces bs)
  where
    by : (x : Bool) → (b == 10) ≡ x → All IsPiece (pieces bs) → All IsPiece (if x then record { bytes = []; has_lf = true } ∷ pieces bs else onto_first b (pieces bs))
    by true is rest = All-cons IsPiece (record { bytes = []; has_lf = true }) (pieces bs) (record { none = refl; some = omega arith }) rest
    by false is rest = first_piece b (pieces bs) (ap not is) rest

-- ---- lines
none_take : (n : ℕ) (bs : List ℕ) → has_none 10 bs ≡ true → has_none 10 (take n bs) ≡ true
none_take zero bs h = refl
none_take (suc n) [] h = refl
none_take (suc n) (b ∷ bs) h = both _ _ (left (not (b == 10)) (has_none 10 bs) h) (none_take n bs (right (not (b == 10)) (has_none 10 bs) h))

none_stripped : (bs : List ℕ) → has_none 10 bs ≡ true → has_none 10 (without_cr bs) ≡ true
none_stripped bs h = by (ends_with_byte 13 bs)
  where
    by : (b : Bool) → has_none 10 (if b then take (length bs - 1) bs else bs) ≡ true
    by true = none_take (length bs - 1) bs h
    by false = h

fewer_stripped : (bs : List ℕ) → length (without_cr bs) ≤ length bs
fewer_stripped bs = by (ends_with_byte 13 bs)
  where
    by : (b : Bool) → length (if b then take (length bs - 1) bs else bs) ≤ length bs
    by true = omega (arith, length-take (length bs - 1) bs)
    by false = omega arith

abbrev pub lines_in : Left → ℕ
lines_in (Ends end) = 0
lines_in (Next l rest) = suc (lines_in rest)

abbrev ArePlain : Left → Type 0
ArePlain (Ends end) = Unit {0}
ArePlain (Next l rest) = HasNoLf l × IsShortLine l × ArePlain rest

record IsWithin (room : ℕ) (ls : Left) : Type 0 where
  plain : ArePlain ls
  few : lines_in ls ≤ room

lines_plain : (limit room : ℕ) (is_ended : Bool) (n : ℕ) (ps : List Piece) → room < 2 ^ 63 → All IsPiece ps → IsWithin room (lined_by limit room is_ended n ps)
lines_plain limit room is_ended n [] small all = record { plain = tt; few = omega arith }
lines_plain limit room is_ended n (p ∷ ps) small all =
    by (is_long limit room p) (is_over room p) refl (p.has_lf || is_ended) (lines_plain limit (room - size_of p) is_ended (n + 1) ps (omega (arith, small)) (All-tail IsPiece p ps all))
  where
    l : Line
    l = record { number = n + 1; bytes = without_cr p.bytes }

    rest : Left
    rest = lined_by limit (room - size_of p) is_ended (n + 1) ps

    by : (a b : Bool) → is_over room p ≡ b → (c : Bool) → IsWithin (room - size_of p) rest
        → IsWithin room (if a then Ends (LongLine (n + 1)) else if b then Ends (TooLong (n + 1)) else if c then Next l rest else Ends Broken)
    by true b over c later = record { plain = tt; few = omega arith }
    by false true over c later = record { plain = tt; few = omega arith }
    by false false over false later = record { plain = tt; few = omega arith }
    by false false over true later =
        let own = All-head IsPiece p ps all in
        let fits : size_of p ≤ room = grind (arith, over) in
        let some = own.some in
        let few = later.few in
        let short : length (without_cr p.bytes) < 2 ^ 63 = omega (arith, small, fits, fewer_stripped p.bytes) in
        record { plain = (none_stripped p.bytes own.none, short, later.plain); few = omega (arith, some, fits, few) }

-- ---- groups
abbrev pub AreSpelled : ℕ → Groups → Type 0
AreSpelled n (Group ls close rest) = All IsLineSpelled ls × All IsShortLine ls × (length ls ≤ n) × AreSpelled n rest
AreSpelled n (Last ls end) = All IsLineSpelled ls × All IsShortLine ls × (length ls ≤ n)

pub more_lines : (m n : ℕ) (gs : Groups) → m ≤ n → AreSpelled m gs → AreSpelled n gs
more_lines m n (Group ls close rest) less own = (own.0, own.1, omega (arith, less, own.2), more_lines m n rest less own.3)
more_lines m n (Last ls end) less own = (own.0, own.1, omega (arith, less, own.2))

onto_spelled : (n : ℕ) (l : Line) (gs : Groups) → IsLineSpelled l → IsShortLine l → AreSpelled n gs → AreSpelled (suc n) (onto_group l gs)
onto_spelled n l (Group ls close rest) own short all =
    (All-cons IsLineSpelled l ls own all.0, All-cons IsShortLine l ls short all.1, omega (arith, all.2), more_lines n (suc n) rest (omega arith) all.3)
onto_spelled n l (Last ls end) own short all = (All-cons IsLineSpelled l ls own all.0, All-cons IsShortLine l ls short all.1, omega (arith, all.2))

groups_spelled : (ls : Left) → ArePlain ls → AreSpelled (lines_in ls) (groups_of ls)
groups_spelled (Ends end) plain = (All-nil IsLineSpelled, All-nil IsShortLine, omega arith)
groups_spelled (Next l rest) plain = by (is_blank_line l) refl (groups_spelled rest plain.2)
  where
    by : (b : Bool) → is_blank_line l ≡ b → AreSpelled (lines_in rest) (groups_of rest) → AreSpelled (suc (lines_in rest)) (if b then Group [] l.number (groups_of rest) else onto_group (trimmed_line l) (groups_of rest))
    by true is all = (All-nil IsLineSpelled, All-nil IsShortLine, omega arith, more_lines (lines_in rest) (suc (lines_in rest)) (groups_of rest) (omega arith) all)
    by false is all = onto_spelled (lines_in rest) (trimmed_line l) (groups_of rest) (spelled_trimmed l.bytes is plain.0) (omega (arith, plain.1, trimmed_few l.bytes)) all

-- the lines of a file's groups are spelled, and in no group more than bytes may come
pub file_spelled : (limit room n : ℕ) (is_ended : Bool) (bytes : List ℕ) → room < 2 ^ 63 → AreSpelled room (groups_of (lined limit room n is_ended bytes))
unfolding lined
file_spelled limit room n is_ended bytes small =
    let all = lines_plain limit room is_ended n (pieces bytes) small (are_pieces bytes) in
    let ls = lined_by limit room is_ended n (pieces bytes) in
    more_lines (lines_in ls) room (groups_of ls) all.few (groups_spelled ls all.plain)

-- ---- how a file's groups end
-- not within a line
abbrev pub IsEnded : Groups → Type 0
IsEnded (Group ls close rest) = IsEnded rest
IsEnded (Last ls (Over n)) = Unit {0}
IsEnded (Last ls Broken) = ⊥
IsEnded (Last ls (LongLine n)) = Unit {0}
IsEnded (Last ls (TooLong n)) = Unit {0}

abbrev EndsSo : Left → Type 0
EndsSo (Ends end) = IsEnded (Last [] end)
EndsSo (Next l rest) = EndsSo rest

onto_ended : (l : Line) (gs : Groups) → IsEnded gs → IsEnded (onto_group l gs)
onto_ended l (Group ls close rest) h = h
onto_ended l (Last ls (Over n)) h = h
onto_ended l (Last ls Broken) h = h
onto_ended l (Last ls (LongLine n)) h = h
onto_ended l (Last ls (TooLong n)) h = h

grouped_ended : (ls : Left) → EndsSo ls → IsEnded (groups_of ls)
grouped_ended (Ends end) h = h
grouped_ended (Next l rest) h = by (is_blank_line l) (grouped_ended rest h)
  where
    by : (b : Bool) → IsEnded (groups_of rest) → IsEnded (if b then Group [] l.number (groups_of rest) else onto_group (trimmed_line l) (groups_of rest))
    by true own = own
    by false own = onto_ended (trimmed_line l) (groups_of rest) own

lines_ended : (limit room n : ℕ) (ps : List Piece) → EndsSo (lined_by limit room true n ps)
lines_ended limit room n [] = tt
lines_ended limit room n (p ∷ ps) = by (is_long limit room p) (is_over room p) p.has_lf (lines_ended limit (room - size_of p) (n + 1) ps)
  where
    rest : Left
    rest = lined_by limit (room - size_of p) true (n + 1) ps

    by : (a b c : Bool) → EndsSo rest
        → EndsSo (if a then Ends (LongLine (n + 1)) else if b then Ends (TooLong (n + 1)) else if c || true then Next (record { number = n + 1; bytes = without_cr p.bytes }) rest else Ends Broken)
    by true b c own = tt
    by false true c own = tt
    by false false true own = own
    by false false false own = own

pub file_ends : (limit room n : ℕ) (bytes : List ℕ) → IsEnded (groups_of (lined limit room n true bytes))
unfolding lined
file_ends limit room n bytes = grouped_ended (lined_by limit room true n (pieces bytes)) (lines_ended limit room n (pieces bytes))
