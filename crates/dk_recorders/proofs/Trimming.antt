-- Lines without the blanks and tabs at their two ends.
use Rattle.std.proofs.Common.{◌≡◌, ◌≢◌, ◌≤◌, ◌-◌, ℕ, Bool, true, false, All, List, [], ◌∷◌, ◌++◌, length, reverse, take, refl, subst, sym, ◌∙◌, ap, arith, inl, inr, if◌then◌else◌}
use Rattle.std.proofs.lemmas.Bool.{cases_eq}
use Rattle.std.proofs.lemmas.List.{reverse-append}
use Rattle.std.proofs.lemmas.List.Elements.{All-cons, All-head, All-map, All-nil, All-tail, All-take, All-weaker}
use Rattle.std.proofs.lemmas.List.Sorted.{All-permutation, IsPermutation-reverse}
use Rattle.std.specs.Io.BufRead.{ends_with_byte}
use Rattle.dk_base.specs.Words.{is_blank, trim_blanks, without_front}
use Rattle.dk_lines.proofs.Lined.{pieces_lf, pieces_other}
use Rattle.dk_lines.specs.Left.{Piece, lines_of, onto_first, pieces, without_cr}
use Rattle.dk_recorders.proofs.Lines.{HasNoLf}

-- ---- trimmed lines are trimmed
-- it doesn't begin with a blank
abbrev begins_clean : List ℕ → Type 0
begins_clean bytes = without_front bytes ≡ bytes

front_clean : (bytes : List ℕ) → begins_clean (without_front bytes)
front_clean [] = refl
front_clean (b ∷ bs) = by (is_blank b) refl (front_clean bs)
  where
    by : (t : Bool) → is_blank b ≡ t → begins_clean (without_front bs) → begins_clean (if t then without_front bs else b ∷ bs)
    by true e more = more
    by false e more = ap (λ (t : Bool). if t then without_front bs else b ∷ bs) e

clean_behind : (bytes : List ℕ) (b : ℕ) → is_blank b ≡ false → without_front (bytes ++ b ∷ []) ≡ without_front bytes ++ b ∷ []
clean_behind [] b e = ap (λ (t : Bool). if t then [] else b ∷ []) e
clean_behind (c ∷ cs) b e = by (is_blank c) (clean_behind cs b e)
  where
    by : (t : Bool) → without_front (cs ++ b ∷ []) ≡ without_front cs ++ b ∷ []
        → (if t then without_front (cs ++ b ∷ []) else c ∷ (cs ++ b ∷ [])) ≡ (if t then without_front cs else c ∷ cs) ++ b ∷ []
    by true more = more
    by false more = refl

reversed : (b : ℕ) (bytes : List ℕ) → reverse (b ∷ bytes) ≡ reverse bytes ++ b ∷ []
reversed b bytes = reverse-append (b ∷ []) bytes

last_reversed : (bytes : List ℕ) (b : ℕ) → reverse (bytes ++ b ∷ []) ≡ b ∷ reverse bytes
last_reversed bytes b = reverse-append bytes (b ∷ [])

twice_reversed : (bytes : List ℕ) → reverse (reverse bytes) ≡ bytes
twice_reversed [] = refl
twice_reversed (b ∷ bs) = ap reverse (reversed b bs) ∙ last_reversed (reverse bs) b ∙ ap (λ (r : List ℕ). b ∷ r) (twice_reversed bs)

no_longer : (bytes : List ℕ) → length (without_front bytes) ≤ length bytes
no_longer [] = omega arith
no_longer (b ∷ bs) = by (is_blank b) (no_longer bs)
  where
    by : (t : Bool) → length (without_front bs) ≤ length bs → length (if t then without_front bs else b ∷ bs) ≤ length (b ∷ bs)
    by true more = omega arith
    by false more = omega arith

-- what begins with no blank still does where blanks behind it are left out
still_clean : (bytes : List ℕ) → begins_clean bytes → begins_clean (reverse (without_front (reverse bytes)))
still_clean [] clean = refl
still_clean (b ∷ bs) clean = by (is_blank b) refl
  where
    by : (t : Bool) → is_blank b ≡ t → begins_clean (reverse (without_front (reverse (b ∷ bs))))
    by true e =
        let same : without_front bs ≡ b ∷ bs = sym (ap (λ (t : Bool). if t then without_front bs else b ∷ bs) e) ∙ clean in
        absurd (omega (arith, no_longer bs, ap length same))
    by false e =
        let whole : reverse (without_front (reverse (b ∷ bs))) ≡ b ∷ reverse (without_front (reverse bs)) =
        ap (λ (r : List ℕ). reverse (without_front r)) (reversed b bs)
        ∙ ap reverse (clean_behind (reverse bs) b e) ∙ last_reversed (without_front (reverse bs)) b in
        ap without_front whole
        ∙ ap (λ (t : Bool). if t then without_front (reverse (without_front (reverse bs))) else b ∷ reverse (without_front (reverse bs))) e
        ∙ sym whole

pub trimmed_twice : (bytes : List ℕ) → trim_blanks (trim_blanks bytes) ≡ trim_blanks bytes
trimmed_twice bytes =
    let front : List ℕ = without_front bytes in
    ap (λ (r : List ℕ). reverse (without_front (reverse r))) (still_clean front (front_clean bytes))
    ∙ ap (λ (r : List ℕ). reverse (without_front r)) (twice_reversed (without_front (reverse front)))
    ∙ ap reverse (front_clean (reverse front))

-- ---- no LF comes in
trimmed_all : (P : ℕ → Type 0) (bytes : List ℕ) → All P bytes → All P (trim_blanks bytes)
trimmed_all P bytes all = turned (without_front (reverse (without_front bytes))) (front_all (reverse (without_front bytes)) (turned (without_front bytes) (front_all bytes all)))
  where
    turned : (xs : List ℕ) → All P xs → All P (reverse xs)
    turned xs h = All-permutation P xs (reverse xs) (IsPermutation-reverse xs) h

    front_all : (xs : List ℕ) → All P xs → All P (without_front xs)
    front_all [] h = h
    front_all (x ∷ xs) h = by (is_blank x) (front_all xs (All-tail P x xs h))
      where
        by : (t : Bool) → All P (without_front xs) → All P (if t then without_front xs else x ∷ xs)
        by true more = more
        by false more = h

pub trimmed_no_lf : (bytes : List ℕ) → HasNoLf bytes → HasNoLf (trim_blanks bytes)
trimmed_no_lf bytes none = trimmed_all (λ b. b ≢ 10) bytes none

cut_no_lf : (bytes : List ℕ) → HasNoLf bytes → HasNoLf (without_cr bytes)
cut_no_lf bytes none = by (ends_with_byte 13 bytes)
  where
    by : (t : Bool) → HasNoLf (if t then take (length bytes - 1) bytes else bytes)
    by true = All-take (λ b. b ≢ 10) (length bytes - 1) bytes none
    by false = none

abbrev IsClean : Piece → Type 0
IsClean p = HasNoLf p.bytes

onto_clean : (b : ℕ) (ps : List Piece) → b ≢ 10 → All IsClean ps → All IsClean (onto_first b ps)
onto_clean b [] other all = All-cons IsClean (record { bytes = b ∷ []; has_lf = false }) [] (All-cons (λ c. c ≢ 10) b [] other (All-nil (λ c. c ≢ 10))) (All-nil IsClean)
onto_clean b (p ∷ ps) other all =
    All-cons IsClean (record { bytes = b ∷ p.bytes; has_lf = p.has_lf }) ps
    (All-cons (λ c. c ≢ 10) b p.bytes other (All-head IsClean p ps all)) (All-tail IsClean p ps all)

pieces_clean : (bytes : List ℕ) → All IsClean (pieces bytes)
pieces_clean [] = All-nil IsClean
pieces_clean (b ∷ bs) = elim (cases_eq b 10) [
  | inl e ↦
      subst (All IsClean) (sym (pieces_lf b bs e))
      (All-cons IsClean (record { bytes = []; has_lf = true }) (pieces bs) (All-nil (λ c. c ≢ 10)) (pieces_clean bs))
  | inr n ↦ subst (All IsClean) (sym (pieces_other b bs n)) (onto_clean b (pieces bs) n (pieces_clean bs))
]

pub lines_have_no_lf : (bytes : List ℕ) → All HasNoLf (lines_of bytes)
lines_have_no_lf bytes =
    All-map HasNoLf (λ (p : Piece). without_cr p.bytes) (pieces bytes)
    (All-weaker IsClean (λ p. HasNoLf (without_cr p.bytes)) (λ p none. cut_no_lf p.bytes none) (pieces bytes) (pieces_clean bytes))
