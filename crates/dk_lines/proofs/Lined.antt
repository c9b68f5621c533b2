-- What is left of a file, line by line.
use Rattle.std.proofs.Common.{◌≡◌, ◌≤◌, ◌<◌, ◌⊎◌, ◌+◌, ◌-◌, ℕ, suc, List, [], ◌∷◌, ◌++◌, length, take, drop, inl, inr, Bool, true, false, Option, Some, None, Result, Ok, Err, IfSome, nat_lt, nat_le, ◌&&◌, ◌||◌, if◌then◌else◌, refl, sym, ◌∙◌, ap, subst, arith, length-append, append_assoc, take-append-drop}
use Rattle.std.proofs.lemmas.Bool.{cases_eq, cases_lt}
use Rattle.std.proofs.lemmas.Bool.Decides.{nat_tests}
use Rattle.std.proofs.lemmas.List.{append-nil, take_all, drop_all, take-append-le, length-take-le, drop_at}
use Rattle.dk_base.specs.Reading.{Line}
use Rattle.dk_lines.specs.declared.gather.Upcoming.{Upcoming}
use Rattle.dk_lines.specs.declared.gather.Upcoming.TheVariants.{End as Nothing, Line as Whole, Long, Many}
use Rattle.dk_lines.specs.Cutting.{line_len, line_bytes, line_used, behind_line, judged, next_of, IsOpen}
use Rattle.dk_lines.proofs.Cut.{len_lf, len_other, len_le, len_open, len_found}
use Rattle.dk_lines.specs.Left.{Left, Over, Broken, LongLine, TooLong, Ends, Next, Piece, onto_first, pieces, size_of, lined_by, lined, lines_left, without_cr, OneLine}
use Rattle.dk_lines.specs.Reading.{Reading, room_of}
use Rattle.dk_lines.specs.Answers.{IsNextLine, NextCounts, NextGives}
use Rattle.dk_lines.specs.Gathering.{GivesFirst}
use Rattle.dk_lines.specs.declared.lines.Limits.{Limits}
use Rattle.dk_lines.specs.declared.lines.LineFault.{LineFault}
use Rattle.dk_lines.specs.declared.lines.LineFault.TheVariants as fault

pub pieces_lf : (b : ℕ) (bs : List ℕ) → b ≡ 10 → pieces (b ∷ bs) ≡ record { bytes = []; has_lf = true } ∷ pieces bs
pieces_lf b bs e = grind (arith, nat_tests)

pub pieces_other : (b : ℕ) (bs : List ℕ) → (b ≡ 10 → ⊥) → pieces (b ∷ bs) ≡ onto_first b (pieces bs)
pieces_other b bs e = grind (arith, nat_tests)

-- the piece of so many bytes, and what follows it
abbrev piece_at : ℕ → Bool → List ℕ → List Piece
piece_at n has_lf xs = record { bytes = take n xs; has_lf = has_lf } ∷ pieces (drop (n + 1) xs)

pub with_lf : (xs : List ℕ) → line_len xs < length xs → pieces xs ≡ piece_at (line_len xs) true xs
with_lf [] h = absurd (omega arith)
with_lf (b ∷ bs) h = elim (cases_eq b 10) [
  | inl e ↦ pieces_lf b bs e ∙ ap (λ (n : ℕ). piece_at n true (b ∷ bs)) (sym (len_lf b bs e))
  | inr n ↦
      let k : line_len bs < length bs = omega (arith, len_other b bs n, h) in
      let next : suc (line_len bs + 1) ≡ suc (line_len bs) + 1 = omega arith in
      pieces_other b bs n ∙ ap (onto_first b) (with_lf bs k)
      ∙ ap (λ (m : ℕ). record { bytes = b ∷ take (line_len bs) bs; has_lf = true } ∷ pieces (drop m (b ∷ bs))) next
      ∙ ap (λ (m : ℕ). piece_at m true (b ∷ bs)) (sym (len_other b bs n))
]

-- the last bytes, which no LF ends
abbrev last_piece : List ℕ → List Piece
last_piece [] = []
last_piece (b ∷ bs) = record { bytes = b ∷ bs; has_lf = false } ∷ []

onto_last : (b : ℕ) (bs : List ℕ) → onto_first b (last_piece bs) ≡ last_piece (b ∷ bs)
onto_last b [] = refl
onto_last b (c ∷ cs) = refl

-- no LF is left
pub without_lf : (xs : List ℕ) → line_len xs ≡ length xs → pieces xs ≡ last_piece xs
without_lf [] h = refl
without_lf (b ∷ bs) h = elim (cases_eq b 10) [
  | inl e ↦ absurd (omega (arith, len_lf b bs e, h))
  | inr n ↦ pieces_other b bs n ∙ ap (onto_first b) (without_lf bs (omega (arith, len_other b bs n, h))) ∙ onto_last b bs
]

-- what is known of the first LF holds without what follows it
pub len_front : (a b : List ℕ) → line_len (a ++ b) < length a → line_len a ≡ line_len (a ++ b)
len_front a b h = elim (cases_lt (line_len a) (length a)) [
  | inl l ↦ sym (len_found a b l)
  | inr g ↦ let o : line_len a ≡ length a = omega (arith, len_le a, g) in absurd (omega (arith, len_open a b o, h))
]

whole_choice : {X : Type 0} (b c : Bool) (used m : ℕ) (x y z : X) → (if b then Long else if c then Many else Whole used) ≡ Whole m → (if b then x else if c then y else z) ≡ z
whole_choice true c used m x y z e = absurd (cc (e))
whole_choice false true used m x y z e = absurd (cc (e))
whole_choice false false used m x y z e = refl

long_choice : {X : Type 0} (b c : Bool) (used : ℕ) (x y z : X) → (if b then Long else if c then Many else Whole used) ≡ Long → (if b then x else if c then y else z) ≡ x
long_choice true c used x y z e = refl
long_choice false true used x y z e = absurd (cc (e))
long_choice false false used x y z e = absurd (cc (e))

many_choice : {X : Type 0} (b c : Bool) (used : ℕ) (x y z : X) → (if b then Long else if c then Many else Whole used) ≡ Many → (if b then x else if c then y else z) ≡ y
many_choice true c used x y z e = absurd (cc (e))
many_choice false true used x y z e = refl
many_choice false false used x y z e = absurd (cc (e))

-- what stands for a piece that is within the limits
abbrev kept_piece : ℕ → ℕ → Bool → ℕ → Piece → List Piece → Left
kept_piece limit room e n p ps = if p.has_lf || e then Next (record { number = n + 1; bytes = without_cr p.bytes }) (lined_by limit (room - size_of p) e (n + 1) ps) else Ends Broken

-- the first piece, by its number of bytes and its size
abbrev FirstIs : List ℕ → Piece → List Piece → Type 0
FirstIs xs p ps = (pieces xs ≡ p ∷ ps) × (length p.bytes ≡ line_len xs) × (size_of p ≡ line_used xs)

lined_whole : (limit room n : ℕ) (e : Bool) (xs : List ℕ) (p : Piece) (ps : List Piece) (m : ℕ) → FirstIs xs p ps → judged limit room (line_len xs) (line_used xs) ≡ Whole m
    → lined limit room n e xs ≡ kept_piece limit room e n p ps
unfolding lined
lined_whole limit room n e xs p ps m first j =
    let k : judged limit room (length p.bytes) (size_of p) ≡ Whole m = ap (λ (k : ℕ). judged limit room k (size_of p)) first.1 ∙ ap (λ (u : ℕ). judged limit room (line_len xs) u) first.2 ∙ j in
    ap (lined_by limit room e n) first.0 ∙ whole_choice (nat_lt limit (length p.bytes) && nat_le limit room) (nat_lt room (size_of p)) (size_of p) m _ _ _ k

pub lined_long : (limit room n : ℕ) (e : Bool) (xs : List ℕ) (p : Piece) (ps : List Piece) → FirstIs xs p ps → judged limit room (line_len xs) (line_used xs) ≡ Long
    → lined limit room n e xs ≡ Ends (LongLine (n + 1))
unfolding lined
lined_long limit room n e xs p ps first j =
    let k : judged limit room (length p.bytes) (size_of p) ≡ Long = ap (λ (k : ℕ). judged limit room k (size_of p)) first.1 ∙ ap (λ (u : ℕ). judged limit room (line_len xs) u) first.2 ∙ j in
    ap (lined_by limit room e n) first.0 ∙ long_choice (nat_lt limit (length p.bytes) && nat_le limit room) (nat_lt room (size_of p)) (size_of p) _ _ _ k

pub lined_many : (limit room n : ℕ) (e : Bool) (xs : List ℕ) (p : Piece) (ps : List Piece) → FirstIs xs p ps → judged limit room (line_len xs) (line_used xs) ≡ Many
    → lined limit room n e xs ≡ Ends (TooLong (n + 1))
unfolding lined
lined_many limit room n e xs p ps first j =
    let k : judged limit room (length p.bytes) (size_of p) ≡ Many = ap (λ (k : ℕ). judged limit room k (size_of p)) first.1 ∙ ap (λ (u : ℕ). judged limit room (line_len xs) u) first.2 ∙ j in
    ap (lined_by limit room e n) first.0 ∙ many_choice (nat_lt limit (length p.bytes) && nat_le limit room) (nat_lt room (size_of p)) (size_of p) _ _ _ k

first_lf : (xs : List ℕ) → line_len xs < length xs → FirstIs xs (record { bytes = line_bytes xs; has_lf = true }) (pieces (behind_line xs))
first_lf xs h = (with_lf xs h, length-take-le (line_len xs) xs (omega (arith, h)), omega (arith, length-take-le (line_len xs) xs (omega (arith, h))))

last_of : (xs : List ℕ) → 0 < length xs → last_piece xs ≡ record { bytes = xs; has_lf = false } ∷ []
last_of [] h = absurd (omega arith)
last_of (b ∷ bs) h = refl

first_last : (xs : List ℕ) → 0 < length xs → line_len xs ≡ length xs → FirstIs xs (record { bytes = xs; has_lf = false }) []
first_last xs h e = (without_lf xs e ∙ last_of xs h, sym e, omega (arith, e))

-- a line with an LF, whatever follows it
pub step_lf : (limit room n : ℕ) (e : Bool) (xs : List ℕ) (m : ℕ) → line_len xs < length xs → judged limit room (line_len xs) (line_used xs) ≡ Whole m
    → lined limit room n e xs ≡ Next (record { number = n + 1; bytes = without_cr (line_bytes xs) }) (lined limit (room - line_used xs) (n + 1) e (behind_line xs))
unfolding lined
step_lf limit room n e xs m h j =
    lined_whole limit room n e xs (record { bytes = line_bytes xs; has_lf = true }) (pieces (behind_line xs)) m (first_lf xs h) j
    ∙ ap (λ (u : ℕ). Next (record { number = n + 1; bytes = without_cr (line_bytes xs) }) (lined_by limit (room - u) e (n + 1) (pieces (behind_line xs)))) (first_lf xs h).2

-- the last bytes, which no LF ends, are a line where the file ends
step_last : (limit room n : ℕ) (xs : List ℕ) (m : ℕ) → 0 < length xs → line_len xs ≡ length xs → judged limit room (line_len xs) (line_used xs) ≡ Whole m
    → lined limit room n true xs ≡ Next (record { number = n + 1; bytes = without_cr xs }) (lined limit (room - line_used xs) (n + 1) true [])
unfolding lined
step_last limit room n xs m h e j =
    lined_whole limit room n true xs (record { bytes = xs; has_lf = false }) [] m (first_last xs h e) j

step_broken : (limit room n : ℕ) (xs : List ℕ) (m : ℕ) → 0 < length xs → line_len xs ≡ length xs → judged limit room (line_len xs) (line_used xs) ≡ Whole m
    → lined limit room n false xs ≡ Ends Broken
step_broken limit room n xs m h e j =
    lined_whole limit room n false xs (record { bytes = xs; has_lf = false }) [] m (first_last xs h e) j

-- what one line takes from the front, over plain values
record Plain (limit room n : ℕ) (xs : List ℕ) : Type 0 where
  front : List ℕ
  split : xs ≡ front ++ behind_line xs
  size : length front ≡ line_used xs
  ended : lined limit room n true xs ≡ Next (record { number = n + 1; bytes = without_cr (line_bytes xs) }) (lined limit (room - line_used xs) (n + 1) true (behind_line xs))
  cut : (d rest : List ℕ) → behind_line xs ≡ d ++ rest →
      (lined limit room n false (front ++ d) ≡ Next (record { number = n + 1; bytes = without_cr (line_bytes xs) }) (lined limit (room - line_used xs) (n + 1) false d))
      ⊎ ((behind_line xs ≡ []) × (lined limit room n false (front ++ d) ≡ Ends Broken))

-- with an LF, and these bytes of what follows
cut_lf : (limit room n : ℕ) (xs d rest : List ℕ) (m : ℕ) → line_len xs < length xs → judged limit room (line_len xs) (line_used xs) ≡ Whole m → behind_line xs ≡ d ++ rest
    → lined limit room n false (take (line_len xs + 1) xs ++ d) ≡ Next (record { number = n + 1; bytes = without_cr (line_bytes xs) }) (lined limit (room - line_used xs) (n + 1) false d)
cut_lf limit room n xs d rest m h j e =
    let a : List ℕ = take (line_len xs + 1) xs ++ d in
    let all : xs ≡ a ++ rest = sym (take-append-drop (line_len xs + 1) xs) ∙ ap (λ (l : List ℕ). take (line_len xs + 1) xs ++ l) e ∙ sym (append_assoc (take (line_len xs + 1) xs) d rest) in
    let size : length (take (line_len xs + 1) xs) ≡ line_len xs + 1 = length-take-le (line_len xs + 1) xs (omega (arith, h)) in
    let sizes : length a ≡ line_len xs + 1 + length d = omega (arith, length-append (take (line_len xs + 1) xs) d, size) in
    let same : line_len a ≡ line_len xs = len_front a rest (subst (λ (l : List ℕ). line_len l < length a) all (omega (arith, sizes))) ∙ ap line_len (sym all) in
    let used : line_used a ≡ line_used xs = omega (arith, same, sizes, h) in
    let bytes : line_bytes a ≡ line_bytes xs = ap (λ (k : ℕ). take k a) same ∙ sym (take-append-le (line_len xs) a rest (omega (arith, sizes))) ∙ ap (take (line_len xs)) (sym all) in
    let behind : behind_line a ≡ d = ap (λ (k : ℕ). drop (k + 1) a) same ∙ drop_at (take (line_len xs + 1) xs) d (line_len xs + 1) size in
    step_lf limit room n false a m (omega (arith, same, sizes)) (ap (λ (k : ℕ). judged limit room k (line_used a)) same ∙ ap (λ (u : ℕ). judged limit room (line_len xs) u) used ∙ j)
    ∙ ap (λ (l : List ℕ). Next (record { number = n + 1; bytes = without_cr l }) (lined limit (room - line_used a) (n + 1) false (behind_line a))) bytes
    ∙ ap (λ (u : ℕ). Next (record { number = n + 1; bytes = without_cr (line_bytes xs) }) (lined limit (room - u) (n + 1) false (behind_line a))) used
    ∙ ap (λ (l : List ℕ). Next (record { number = n + 1; bytes = without_cr (line_bytes xs) }) (lined limit (room - line_used xs) (n + 1) false l)) behind

plain_lf : (limit room n : ℕ) (xs : List ℕ) (m : ℕ) → line_len xs < length xs → judged limit room (line_len xs) (line_used xs) ≡ Whole m → Plain limit room n xs
plain_lf limit room n xs m h j = record {
  front = take (line_len xs + 1) xs;
  split = sym (take-append-drop (line_len xs + 1) xs);
  size = omega (arith, h, length-take-le (line_len xs + 1) xs (omega (arith, h)));
  ended = step_lf limit room n true xs m h j;
  cut = λ d rest e. inl (cut_lf limit room n xs d rest m h j e);
}

nothing_left : (d rest : List ℕ) → [] ≡ d ++ rest → d ≡ []
nothing_left [] rest e = refl
nothing_left (b ∷ bs) rest e = absurd (cc (e))

plain_last : (limit room n : ℕ) (xs : List ℕ) (m : ℕ) → 0 < length xs → line_len xs ≡ length xs → judged limit room (line_len xs) (line_used xs) ≡ Whole m → Plain limit room n xs
plain_last limit room n xs m h e j =
    let behind : behind_line xs ≡ [] = drop_all (line_len xs + 1) xs (omega (arith, e)) in
    let bytes : line_bytes xs ≡ xs = take_all (line_len xs) xs (omega (arith, e)) in
    record {
      front = xs;
      split = sym (ap (λ (l : List ℕ). xs ++ l) behind ∙ append-nil xs);
      size = omega (arith, e);
      ended = step_last limit room n xs m h e j
          ∙ ap (λ (l : List ℕ). Next (record { number = n + 1; bytes = without_cr l }) (lined limit (room - line_used xs) (n + 1) true [])) (sym bytes)
          ∙ ap (λ (l : List ℕ). Next (record { number = n + 1; bytes = without_cr (line_bytes xs) }) (lined limit (room - line_used xs) (n + 1) true l)) (sym behind);
      cut = λ d rest s.
          let none : d ≡ [] = nothing_left d rest (sym behind ∙ s) in
          inr (behind, ap (λ (l : List ℕ). lined limit room n false (xs ++ l)) none ∙ ap (lined limit room n false) (append-nil xs) ∙ step_broken limit room n xs m h e j);
    }

plain : (limit room n : ℕ) (xs : List ℕ) (m : ℕ) → 0 < length xs → judged limit room (line_len xs) (line_used xs) ≡ Whole m → Plain limit room n xs
plain limit room n xs m h j = elim (cases_lt (line_len xs) (length xs)) [
  | inl l ↦ plain_lf limit room n xs m l j
  | inr g ↦ plain_last limit room n xs m h (omega (arith, g, len_le xs)) j
]

has_bytes : (limit room m : ℕ) (xs : List ℕ) → next_of limit room xs ≡ Whole m → 0 < length xs
has_bytes limit room m [] e = absurd (cc (e))
has_bytes limit room m (b ∷ bs) e = omega arith

judged_of : (limit room : ℕ) (xs : List ℕ) (f : Upcoming) → 0 < length xs → next_of limit room xs ≡ f → judged limit room (line_len xs) (line_used xs) ≡ f
judged_of limit room [] f h e = absurd (omega arith)
judged_of limit room (b ∷ bs) f h e = e

-- the lines that a reader finds
moved : (r new : Reading) (e : Bool) (used : ℕ) (ys : List ℕ) → new.limits ≡ r.limits → new.number ≡ r.number + 1 → room_of new ≡ room_of r - used
    → lined r.limits.line (room_of r - used) (r.number + 1) e ys ≡ lines_left new e ys
moved r new e used ys limits number room =
    ap (λ (m : ℕ). lined r.limits.line m (r.number + 1) e ys) (sym room)
    ∙ ap (λ (n : ℕ). lined r.limits.line (room_of new) n e ys) (sym number)
    ∙ ap (λ (l : Limits). lined l.line (room_of new) new.number e ys) (sym limits)

one_from : (r new : Reading) (xs : List ℕ) (line : Line) → Plain r.limits.line (room_of r) r.number xs → new.limits ≡ r.limits → new.number ≡ r.number + 1 → new.total ≡ r.total + line_used xs
    → record { number = r.number + 1; bytes = without_cr (line_bytes xs) } ≡ line → OneLine r xs line new (behind_line xs)
one_from r new xs line p limits number total here =
    let room : room_of new ≡ room_of r - line_used xs = ap (λ (l : Limits). l.total - new.total) limits ∙ omega (arith, total) in
    record {
      front = p.front;
      split = p.split;
      total = total ∙ ap (λ (k : ℕ). r.total + k) (sym p.size);
      room = room ∙ ap (λ (k : ℕ). room_of r - k) (sym p.size);
      ended = p.ended ∙ ap (λ (l : Line). Next l (lined r.limits.line (room_of r - line_used xs) (r.number + 1) true (behind_line xs))) here
          ∙ ap (λ (l : Left). Next line l) (moved r new true (line_used xs) (behind_line xs) limits number room);
      cut = λ d rest e. elim (p.cut d rest e) [
        | inl s ↦ inl (s ∙ ap (λ (l : Line). Next l (lined r.limits.line (room_of r - line_used xs) (r.number + 1) false d)) here
            ∙ ap (λ (l : Left). Next line l) (moved r new false (line_used xs) d limits number room))
        | inr s ↦ inr s
      ];
    }

one_line : (r new : Reading) (xs : List ℕ) (line : Line) (left : Option (List ℕ)) → new.limits ≡ r.limits → NextCounts r (Ok (Some line)) new → GivesFirst r xs (Ok (Some line)) new left → NextGives r xs (Ok (Some line)) new left
one_line r new xs line left limits counts first =
    let some = has_bytes r.limits.line (room_of r) (line_used xs) xs first.0 in
    let p = plain r.limits.line (room_of r) r.number xs (line_used xs) some (judged_of r.limits.line (room_of r) xs (Whole (line_used xs)) some first.0) in
    let here : record { number = r.number + 1; bytes = without_cr (line_bytes xs) } ≡ line = ap (λ (n : ℕ). record { number = n; bytes = without_cr (line_bytes xs) }) (sym counts.0) ∙ ap (λ (bs : List ℕ). record line { bytes = bs }) (sym first.1) in
    (behind_line xs, first.2, one_from r new xs line p limits counts.1 first.3 here)

-- nothing is left of an ended file
pub at_end : (r : Reading) → lines_left r true [] ≡ Ends (Over (r.number + 1))
unfolding lined
at_end r = refl

-- no line has begun
pub at_break : (r : Reading) → lines_left r false [] ≡ Ends Broken
unfolding lined
at_break r = refl

-- the first piece of bytes that are not at their end
at_fault : (limit room n : ℕ) (e : Bool) (xs : List ℕ) → 0 < length xs → (p : Piece) × ((ps : List Piece) × FirstIs xs p ps)
at_fault limit room n e xs h = elim (cases_lt (line_len xs) (length xs)) [
  | inl l ↦ (record { bytes = line_bytes xs; has_lf = true }, (pieces (behind_line xs), first_lf xs l))
  | inr g ↦ (record { bytes = xs; has_lf = false }, ([], first_last xs h (omega (arith, g, len_le xs))))
]

has_some : (limit room : ℕ) (xs : List ℕ) (f : Upcoming) → next_of limit room xs ≡ f → (f ≡ Nothing → ⊥) → 0 < length xs
has_some limit room [] f e n = absurd (n (sym e))
has_some limit room (b ∷ bs) f e n = omega arith

at_long : (r : Reading) (e : Bool) (xs : List ℕ) → next_of r.limits.line (room_of r) xs ≡ Long → lines_left r e xs ≡ Ends (LongLine (r.number + 1))
at_long r e xs is =
    let some = has_some r.limits.line (room_of r) xs Long is (λ s. cc (s)) in
    let f = at_fault r.limits.line (room_of r) r.number e xs some in
    lined_long r.limits.line (room_of r) r.number e xs f.0 f.1.0 f.1.1 (judged_of r.limits.line (room_of r) xs Long some is)

at_many : (r : Reading) (e : Bool) (xs : List ℕ) → next_of r.limits.line (room_of r) xs ≡ Many → lines_left r e xs ≡ Ends (TooLong (r.number + 1))
at_many r e xs is =
    let some = has_some r.limits.line (room_of r) xs Many is (λ s. cc (s)) in
    let f = at_fault r.limits.line (room_of r) r.number e xs some in
    lined_many r.limits.line (room_of r) r.number e xs f.0 f.1.0 f.1.1 (judged_of r.limits.line (room_of r) xs Many some is)

-- bytes within the limits, which no LF ends
pub open_breaks : (r : Reading) (bytes : List ℕ) → IsOpen r.limits.line (room_of r) bytes → lines_left r false bytes ≡ Ends Broken
open_breaks r [] h = at_break r
open_breaks r (b ∷ bs) h =
    let no : line_len (b ∷ bs) ≡ length (b ∷ bs) = h.no_lf in
    let used : line_used (b ∷ bs) ≡ length (b ∷ bs) = omega (arith, no) in
    let j : judged r.limits.line (room_of r) (line_len (b ∷ bs)) (line_used (b ∷ bs)) ≡ Whole (line_used (b ∷ bs)) = fits r.limits.line (room_of r) (line_len (b ∷ bs)) (line_used (b ∷ bs)) (omega (arith, no, h.short)) (omega (arith, used, h.fits)) in
    step_broken r.limits.line (room_of r) r.number (b ∷ bs) (line_used (b ∷ bs)) (omega arith) no j where
      fits : (limit room k used : ℕ) → k ≤ limit → used ≤ room → judged limit room k used ≡ Whole used
      fits limit room k used a c = grind (arith, nat_tests)

-- what an answer by the first line says of all lines that are left
told : (r new : Reading) (xs : List ℕ) (answer : Result (Option Line) LineFault) (left : Option (List ℕ)) → new.limits ≡ r.limits → NextCounts r answer new → GivesFirst r xs answer new left → NextGives r xs answer new left
told r new xs (Ok (Some line)) left limits counts answers = one_line r new xs line left limits counts answers
told r new xs (Ok None) left limits counts answers = answers
told r new xs (Err fault.Read) left limits counts answers = (answers.0, (answers.1, answers.3, answers.2, open_breaks r answers.0 answers.4, answers.5))
told r new xs (Err (fault.LongLine n)) left limits counts answers = λ e. at_long r e xs answers ∙ ap (λ (k : ℕ). Ends (LongLine k)) (sym counts.0)
told r new xs (Err (fault.TooLong n)) left limits counts answers = λ e. at_many r e xs answers ∙ ap (λ (k : ℕ). Ends (TooLong k)) (sym counts.0)
told r new xs (Err fault.NoMemory) left limits counts answers = tt

pub is_next : {r new : Reading} {before after : Option (List ℕ)} {answer : Result (Option Line) LineFault} → new.limits ≡ r.limits → NextCounts r answer new → IfSome before (λ xs. GivesFirst r xs answer new after) → IsNextLine r before answer new after
is_next {r} {new} {before} {after} {answer} limits counts answers = record { limits_stay = limits; counts = counts; gives = go before answers } where
  go : (o : Option (List ℕ)) → IfSome o (λ xs. GivesFirst r xs answer new after) → IfSome o (λ xs. NextGives r xs answer new after)
  go None none = tt
  go (Some xs) some = told r new xs answer after limits counts some
