-- The last line of a file, where it is blank and no LF ends it.
use Rattle.std.proofs.Common.{◌≡◌, ◌+◌, ◌-◌, ◌++◌, ◌∙◌, ◌&&◌, ◌||◌, not, ℕ, Bool, true, false, List, [], ◌∷◌, map, inl, inr, if◌then◌else◌, Option, Some, None, refl, sym, ap, subst}
use Rattle.std.proofs.lemmas.List.{append-nil}
use Rattle.std.specs.List.{last_or}
use Rattle.std.specs.Option.{option_map_or}
use Rattle.dk_base.specs.Pieces.{is_empty}
use Rattle.dk_base.specs.Reading.{Line}
use Rattle.dk_base.specs.Words.{trim_blanks}
use Rattle.dk_lines.proofs.Lined.{at_end}
use Rattle.dk_lines.specs.Left.{Left, OneLine, Piece, Over, Broken, LongLine, TooLong, Ends, Next, is_long, is_over, lined, lined_by, lines_left, pieces, size_of, without_cr}
use Rattle.dk_lines.specs.Passing.{PassesLines, in_front, joined, numbered_lines}
use Rattle.dk_lines.specs.Reading.{Reading, room_of}
use Rattle.dk_blocks.specs.Blocks.{is_blank_line}
use Rattle.dk_blocks.specs.LastLines.{IsLastAndBlank, LackBlank, LeavesBlank, ends_in_blank_line, is_open_blank}

-- ---- where nothing is left
pub nothing_left : (d rest : List ℕ) → [] ≡ d ++ rest → d ≡ []
nothing_left [] rest e = refl
nothing_left (b ∷ bs) rest e = absurd (cc (e))

-- where nothing is left, no line is
pub nothing_lacks : (r : Reading) (xs : List ℕ) → xs ≡ [] → LeavesBlank r xs → ⊥
nothing_lacks r xs none leaves = subst (λ (l : Left). LackBlank l (lines_left r false xs)) (ap (lines_left r true) none ∙ at_end r) leaves

-- ---- one line
-- the line was read, and what is left behind it ends in a blank one
pub last_behind : (old new : Reading) (xs ys : List ℕ) (line : Line) → OneLine old xs line new ys → LeavesBlank new ys → LeavesBlank old xs
last_behind old new xs ys line one leaves = elim (one.cut ys [] (sym (append-nil ys))) [
  | inl same ↦
      let cut : lines_left old false xs ≡ Next line (lines_left new false ys) = ap (lines_left old false) one.split ∙ same in
      subst (λ (l : Left). LackBlank l (lines_left old false xs)) (sym one.ended) (subst (LackBlank (Next line (lines_left new true ys))) (sym cut) leaves)
  | inr none ↦ absurd (nothing_lacks new ys none.0 leaves)
]

-- it is blank itself, nothing follows it, and where the file is cut off it is no line
pub blank_at_last : (old new : Reading) (xs ys d rest : List ℕ) (line : Line) → (one : OneLine old xs line new ys) → is_blank_line line ≡ true → ys ≡ d ++ rest → ys ≡ [] → lines_left old false (one.front ++ d) ≡ Ends Broken
    → LeavesBlank old xs
blank_at_last old new xs ys d rest line one blank e none broken =
    let no_more : d ≡ [] = nothing_left d rest (sym none ∙ e) in
    let all : one.front ++ d ≡ xs = ap (λ (l : List ℕ). one.front ++ l) (no_more ∙ sym none) ∙ sym one.split in
    let ended : lines_left old true xs ≡ Next line (Ends (Over (new.number + 1))) = one.ended ∙ ap (λ (l : List ℕ). Next line (lines_left new true l)) none ∙ ap (λ (l : Left). Next line l) (at_end new) in
    let cut : lines_left old false xs ≡ Ends Broken = ap (lines_left old false) (sym all) ∙ broken in
    subst (λ (l : Left). LackBlank l (lines_left old false xs)) (sym ended) (subst (LackBlank (Next line (Ends (Over (new.number + 1))))) (sym cut) blank)

-- a line was read, so something was left
pub some_left : (old new : Reading) (xs ys : List ℕ) (line : Line) → OneLine old xs line new ys → xs ≡ [] → ⊥
some_left old new xs ys line one none = let e = sym one.ended ∙ ap (lines_left old true) none ∙ at_end old in cc (e)

-- ---- lines that are passed
lack_behind : (ls : List Line) (whole cut : Left) → LackBlank whole cut → LackBlank (in_front ls whole) (in_front ls cut)
lack_behind [] whole cut lack = lack
lack_behind (l ∷ ls) whole cut lack = lack_behind ls whole cut lack

pub last_passed : (old new : Reading) (ls : List (List ℕ)) (xs ys : List ℕ) → PassesLines old ls new → xs ≡ joined ls ++ ys → LeavesBlank new ys → LeavesBlank old xs
last_passed old new ls xs ys passes all leaves =
    let lines : List Line = numbered_lines (old.number + 1) (map without_cr ls) in
    let ended : lines_left old true xs ≡ in_front lines (lines_left new true ys) = ap (lines_left old true) all ∙ passes true ys in
    let cut : lines_left old false xs ≡ in_front lines (lines_left new false ys) = ap (lines_left old false) all ∙ passes false ys in
    subst (λ (l : Left). LackBlank l (lines_left old false xs)) (sym ended)
    (subst (LackBlank (in_front lines (lines_left new true ys))) (sym cut) (lack_behind lines (lines_left new true ys) (lines_left new false ys) leaves))

-- ---- the bytes of a file
-- what a piece is read as, where it is long, too long for what may come, or has an LF or the file's end behind it
abbrev piece_left : Bool → Bool → Bool → ℕ → Line → Left → Left
piece_left long many whole n l rest = if long then Ends (LongLine n) else if many then Ends (TooLong n) else if whole then Next l rest else Ends Broken

-- a line follows, or a byte too many
not_last : (long many lf : Bool) (n : ℕ) (l m : Line) (rest : Left) → IsLastAndBlank l (piece_left long many (lf || true) n m rest) → ⊥
not_last true many lf n l m rest blank = blank
not_last false true lf n l m rest blank = blank
not_last false false true n l m rest blank = blank
not_last false false false n l m rest blank = blank

-- whether the last of the pieces, or else this one, is a blank line without LF
abbrev is_last_open : Option Piece → List Piece → Bool
is_last_open o ps = option_map_or is_open_blank (last_or o ps) false

open_blank : (p : Piece) (n : ℕ) → p.has_lf ≡ false → is_blank_line (record { number = n; bytes = without_cr p.bytes }) ≡ true → is_open_blank p ≡ true
open_blank p n no_lf blank = subst (λ (b : Bool). (not b && is_empty (trim_blanks (without_cr p.bytes))) ≡ true) (sym no_lf) blank

last_piece : (limit room n : ℕ) (p : Piece) (ps : List Piece) → p.has_lf ≡ false
    → IsLastAndBlank (record { number = n; bytes = without_cr p.bytes }) (lined_by limit room true n ps) → is_last_open (Some p) ps ≡ true
last_piece limit room n p [] no_lf blank = open_blank p n no_lf blank
last_piece limit room n p (q ∷ qs) no_lf blank =
    absurd (not_last (is_long limit room q) (is_over room q) q.has_lf (n + 1) (record { number = n; bytes = without_cr p.bytes }) (record { number = n + 1; bytes = without_cr q.bytes }) (lined_by limit (room - size_of q) true (n + 1) qs) blank)

pub lack_ends : (limit room n : ℕ) (o : Option Piece) (ps : List Piece) → LackBlank (lined_by limit room true n ps) (lined_by limit room false n ps) → is_last_open o ps ≡ true
lack_ends limit room n o [] lack = absurd lack
lack_ends limit room n o (p ∷ ps) lack = go (is_long limit room p) (is_over room p) p.has_lf refl (lack_ends limit (room - size_of p) (n + 1) (Some p) ps) lack where
  line : Line
  line = record { number = n + 1; bytes = without_cr p.bytes }

  whole : Left
  whole = lined_by limit (room - size_of p) true (n + 1) ps

  cut : Left
  cut = lined_by limit (room - size_of p) false (n + 1) ps

  go : (long many lf : Bool) → p.has_lf ≡ lf → (LackBlank whole cut → is_last_open (Some p) ps ≡ true)
      → LackBlank (piece_left long many (lf || true) (n + 1) line whole) (piece_left long many (lf || false) (n + 1) line cut) → is_last_open (Some p) ps ≡ true
  go true many lf is more lack = absurd lack
  go false true lf is more lack = absurd lack
  go false false true is more lack = more lack
  go false false false is more lack = last_piece limit (room - size_of p) (n + 1) p ps is lack

-- what leaves a blank line ends in one
pub blank_ends : (r : Reading) (xs : List ℕ) → LeavesBlank r xs → ends_in_blank_line xs ≡ true
unfolding lined
blank_ends r xs leaves = lack_ends r.limits.line (room_of r) r.number None (pieces xs) leaves
