-- The lines of a text that is written line by line.
use Rattle.std.proofs.Common.{◌≡◌, ◌≢◌, ◌+◌, ◌-◌, ◌≤◌, ℕ, Bool, true, false, All, List, [], ◌∷◌, ◌++◌, length, map, refl, sym, ◌∙◌, ap, append_assoc, arith, length-append, if◌then◌else◌}
use Rattle.std.proofs.lemmas.Bool.Decides.{nat_tests}
use Rattle.std.proofs.lemmas.List.Elements.{All-append, All-cons, All-head, All-nil, All-tail}
use Rattle.std.specs.List.{join_with_byte}
use Rattle.dk_lines.proofs.Lined.{pieces_lf, pieces_other}
use Rattle.dk_lines.specs.Left.{Broken, End, Ends, Left, LongLine, Next, Over, Piece, TooLong, is_long, is_over, lined_by, numbered, onto_first, pieces, without_cr}
use Rattle.dk_turns.specs.Blocks.{Block, lines_of_block}
use Rattle.dk_turns.specs.Turns.{block_text, lines_text}

abbrev pub HasNoLf : List ℕ → Type 0
HasNoLf bytes = All (λ b. b ≢ 10) bytes

-- a line with the LF that ends it
abbrev pub ended : List ℕ → Piece
ended line = record { bytes = line; has_lf = true }

first_piece : (line rest : List ℕ) → HasNoLf line → pieces ((line ++ 10 ∷ []) ++ rest) ≡ ended line ∷ pieces rest
first_piece [] rest none = pieces_lf 10 rest refl
first_piece (b ∷ bs) rest none =
    pieces_other b ((bs ++ 10 ∷ []) ++ rest) (All-head (λ c. c ≢ 10) b bs none)
    ∙ ap (onto_first b) (first_piece bs rest (All-tail (λ c. c ≢ 10) b bs none))

pub pieces_are : (lines : List (List ℕ)) → All HasNoLf lines → pieces (lines_text lines) ≡ map ended lines
pieces_are [] none = refl
pieces_are (l ∷ ls) none =
    first_piece l (lines_text ls) (All-head HasNoLf l ls none)
    ∙ ap (λ (ps : List Piece). ended l ∷ ps) (pieces_are ls (All-tail HasNoLf l ls none))

pub text-append : (xs ys : List (List ℕ)) → lines_text (xs ++ ys) ≡ lines_text xs ++ lines_text ys
text-append [] ys = refl
text-append (x ∷ xs) ys =
    ap (λ (t : List ℕ). (x ++ 10 ∷ []) ++ t) (text-append xs ys) ∙ sym (append_assoc (x ++ 10 ∷ []) (lines_text xs) (lines_text ys))

-- ---- the lines of blocks, with a blank line between two of them
abbrev pub spaced : List Block → List (List ℕ)
spaced [] = []
spaced (b ∷ []) = lines_of_block b
spaced (b ∷ c ∷ bs) = lines_of_block b ++ [] ∷ spaced (c ∷ bs)

pub text_of_blocks : (bs : List Block) → join_with_byte 10 (map block_text bs) ≡ lines_text (spaced bs)
text_of_blocks [] = refl
text_of_blocks (b ∷ []) = refl
text_of_blocks (b ∷ c ∷ bs) =
    ap (λ (t : List ℕ). block_text b ++ 10 ∷ t) (text_of_blocks (c ∷ bs)) ∙ sym (text-append (lines_of_block b) ([] ∷ spaced (c ∷ bs)))

pub spaced_all : (P : List ℕ → Type 0) → P [] → (bs : List Block) → All (λ b. All P (lines_of_block b)) bs → All P (spaced bs)
spaced_all P nothing [] all = All-nil P
spaced_all P nothing (b ∷ []) all = All-head (λ c. All P (lines_of_block c)) b [] all
spaced_all P nothing (b ∷ c ∷ bs) all =
    All-append P (lines_of_block b) ([] ∷ spaced (c ∷ bs)) (All-head (λ d. All P (lines_of_block d)) b (c ∷ bs) all)
    (All-cons P [] (spaced (c ∷ bs)) nothing (spaced_all P nothing (c ∷ bs) (All-tail (λ d. All P (lines_of_block d)) b (c ∷ bs) all)))

-- ---- limits
abbrev pub is_short : ℕ → List ℕ → Type 0
is_short limit line = length line ≤ limit

-- no line is too long, nor are all together
pub record Fit (limit room : ℕ) (lines : List (List ℕ)) : Type 0 where
  pub short : All (is_short limit) lines
  pub all : length (lines_text lines) ≤ room

text_length : (l : List ℕ) (ls : List (List ℕ)) → length (lines_text (l ∷ ls)) ≡ length l + 1 + length (lines_text ls)
text_length l ls = omega (arith, length-append (l ++ 10 ∷ []) (lines_text ls), length-append l (10 ∷ []))

-- within the limits each line is one
pub whole_lines : (limit room n : ℕ) (lines : List (List ℕ)) → Fit limit room lines
    → lined_by limit room true n (map ended lines) ≡ numbered n (map without_cr lines)
whole_lines limit room n [] fit = refl
whole_lines limit room n (l ∷ ls) fit =
    let short : length l ≤ limit = All-head (is_short limit) l ls fit.short in
    let all : length l + 1 + length (lines_text ls) ≤ room = omega (arith, text_length l ls, fit.all) in
    let not_long : is_long limit room (ended l) ≡ false = grind (arith, nat_tests) in
    let not_over : is_over room (ended l) ≡ false = grind (arith, nat_tests) in
    let rest : Left = lined_by limit (room - (length l + 1)) true (n + 1) (map ended ls) in
    ap (λ (b : Bool). if b then Ends (LongLine (n + 1)) else if is_over room (ended l) then Ends (TooLong (n + 1)) else Next (record { number = n + 1; bytes = without_cr l }) rest) not_long
    ∙ ap (λ (b : Bool). if b then Ends (TooLong (n + 1)) else Next (record { number = n + 1; bytes = without_cr l }) rest) not_over
    ∙ ap (λ (r : Left). Next (record { number = n + 1; bytes = without_cr l }) r)
    (whole_lines limit (room - (length l + 1)) (n + 1) ls
    (record { short = All-tail (is_short limit) l ls fit.short; all = omega (arith, all) }))

-- ---- how lines end
abbrev pub end_of : Left → End
end_of (Ends end) = end
end_of (Next line rest) = end_of rest

-- a line has too many bytes, or the files have
abbrev pub is_past_limit : End → Bool
is_past_limit (Over line) = false
is_past_limit Broken = false
is_past_limit (LongLine line) = true
is_past_limit (TooLong line) = true

-- lines that end within the limits fit them
pub fit_if_within : (limit room n : ℕ) (lines : List (List ℕ)) → is_past_limit (end_of (lined_by limit room true n (map ended lines))) ≡ false
    → Fit limit room lines
fit_if_within limit room n [] within = record { short = All-nil (is_short limit); all = omega arith }
fit_if_within limit room n (l ∷ ls) within =
    by (is_long limit room (ended l)) (is_over room (ended l)) refl refl within (fit_if_within limit (room - (length l + 1)) (n + 1) ls)
  where
    by : (a b : Bool) → is_long limit room (ended l) ≡ a → is_over room (ended l) ≡ b
        → is_past_limit (end_of (if a then Ends (LongLine (n + 1)) else if b then Ends (TooLong (n + 1)) else Next (record { number = n + 1; bytes = without_cr l }) (lined_by limit (room - (length l + 1)) true (n + 1) (map ended ls)))) ≡ false
        → (is_past_limit (end_of (lined_by limit (room - (length l + 1)) true (n + 1) (map ended ls))) ≡ false → Fit limit (room - (length l + 1)) ls)
        → Fit limit room (l ∷ ls)
    by true b long over w more = absurd (cc w)
    by false true long over w more = absurd (cc w)
    by false false long over w more =
        let fit = more w in
        let there : length l + 1 ≤ room = grind (arith, nat_tests) in
        let short : length l ≤ limit = grind (arith, nat_tests) in
        let left : length (lines_text ls) ≤ room - (length l + 1) = fit.all in
        record { short = All-cons (is_short limit) l ls short fit.short; all = omega (arith, text_length l ls, left, there) }
