-- Lines that are read as they stand.
use Rattle.std.proofs.Common.{◌≡◌, ◌≢◌, ◌≤◌, ◌<◌, ◌+◌, ◌-◌, ◌++◌, ◌∙◌, ℕ, Bool, true, false, List, [], ◌∷◌, length, take, drop, get_or, refl, sym, ap, arith}
use Rattle.std.specs.Prelude.{not, reverse}
use Rattle.std.specs.Str.{bytes_eq}
use Rattle.std.proofs.Math.Seq.{take-append_seam}
use Rattle.std.proofs.lemmas.Bool.Decides.{nat_tests, Decides-eqb}
use Rattle.std.proofs.lemmas.Slice.Eq.{bytes_eq-Decides}
use Rattle.std.proofs.lemmas.Grind.{get_or_default_zero}
use Rattle.std.proofs.lemmas.List.{drop_more, get_or-reverse, get_or-take, length-take-le, reverse-reverse, take-append-drop}
use Rattle.memchr.specs.Find.{NoneBefore, Passes, is_byte}
use Rattle.dk_base.proofs.Digits.{to_end}
use Rattle.dk_base.specs.Words.{is_blank, trim_blanks, without_front}
use Rattle.dk_lines.specs.Left.{without_cr}
use Rattle.dk_lines.specs.Passing.{HasNoLf}
use Rattle.dk_trace.specs.Whole.{IsCut, IsTidy}

-- ---- the ends of a line

front_same : (l : List ℕ) → is_blank (get_or l 0 0) ≡ false → without_front l ≡ l
front_same [] h = refl
front_same (b ∷ bs) h = rw h refl

not_blank : (b : ℕ) → b ≢ 32 → b ≢ 9 → is_blank b ≡ false
not_blank b blank tab = grind (arith, nat_tests)

last_first : (l : List ℕ) → 0 < length l → get_or (reverse l) 0 0 ≡ get_or l (length l - 1) 0
last_first l some = let at : length l - 1 - 0 ≡ length l - 1 = omega arith in get_or-reverse l 0 0 some ∙ ap (λ (k : ℕ). get_or l k 0) at

trim_same : (l : List ℕ) → 0 < length l → is_blank (get_or l 0 0) ≡ false → is_blank (get_or l (length l - 1) 0) ≡ false → trim_blanks l ≡ l
trim_same l some first last =
    ap (λ (xs : List ℕ). reverse (without_front (reverse xs))) (front_same l first)
    ∙ ap reverse (front_same (reverse l) (ap is_blank (last_first l some) ∙ last))
    ∙ reverse-reverse l

no_cr : (l : List ℕ) → get_or l (length l - 1) 0 ≢ 13 → without_cr l ≡ l
no_cr l other = grind (arith, nat_tests)

pub tidy_ends : (l : List ℕ) → 0 < length l → HasNoLf l → get_or l 0 0 ≢ 32 → get_or l 0 0 ≢ 9
    → get_or l (length l - 1) 0 ≢ 32 → get_or l (length l - 1) 0 ≢ 9 → get_or l (length l - 1) 0 ≢ 13 → IsTidy l
tidy_ends l some one first_blank first_tab last_blank last_tab last_cr = record {
  some = some;
  one = one;
  no_cr = no_cr l last_cr;
  no_blanks = trim_same l some (not_blank (get_or l 0 0) first_blank first_tab) (not_blank (get_or l (length l - 1) 0) last_blank last_tab);
}

-- a line of bytes above the blank
pub tidy_plain : (l : List ℕ) → 0 < length l → ((k : ℕ) → k < length l → 32 < get_or l k 0) → IsTidy l
tidy_plain l some above =
    let first = above 0 some in
    let last = above (length l - 1) (omega arith) in
    tidy_ends l some (λ k d lt is. let high = above k lt in let same = get_or_default_zero l k d lt in absurd (omega (arith, high, same, is)))
    (λ is. absurd (omega (arith, first, is))) (λ is. absurd (omega (arith, first, is)))
    (λ is. absurd (omega (arith, last, is))) (λ is. absurd (omega (arith, last, is))) (λ is. absurd (omega (arith, last, is)))

-- ---- where a line ends

pub cut_at : (xs : List ℕ) (k c : ℕ) → k < length xs → get_or xs k 0 ≡ c → xs ≡ take k xs ++ c ∷ drop (k + 1) xs
cut_at xs k c lt is = sym (take-append-drop k xs) ∙ ap (λ (l : List ℕ). take k xs ++ l) (drop_more xs k 0 lt) ∙ ap (λ (b : ℕ). take k xs ++ b ∷ drop (k + 1) xs) is

-- in front of the first LF is none
pub no_lf_before : (xs : List ℕ) (k : ℕ) → NoneBefore (Passes (is_byte 10) xs) 0 (length xs) k → HasNoLf (take k xs)
no_lf_before xs k before j d lt is =
    let len : length (take k xs) ≡ k = length-take-le k xs (omega (arith, before.high)) in
    let low : j < k = omega (arith, len, lt) in
    let same = get_or-take k xs j d low in
    let zero = get_or_default_zero xs j d (omega (arith, low, before.high)) in
    let at : get_or xs j 0 ≡ 10 = sym zero ∙ sym same ∙ is in
    before.before j (omega arith) low ((Decides-eqb (get_or xs j 0) 10).1 at)

pub first_cut : (xs : List ℕ) (k : ℕ) → NoneBefore (Passes (is_byte 10) xs) 0 (length xs) k → Passes (is_byte 10) xs k → (HasNoLf (take k xs) → IsTidy (take k xs)) → IsCut xs (take k xs) (drop (k + 1) xs)
first_cut xs k before passes tidy = record {
  whole = cut_at xs k 10 before.high ((Decides-eqb (get_or xs k 0) 10).0 passes);
  tidy = tidy (no_lf_before xs k before);
}

-- bytes that begin with other bytes than the line's begin with no such line
pub differs : (bytes line : List ℕ) (is : Bool) → is ≡ bytes_eq (take (length line) bytes) line → is ≡ false → (rest : List ℕ) → bytes ≡ line ++ 10 ∷ rest → ⊥
differs bytes line is same not rest whole =
    let front : take (length line) bytes ≡ line = ap (take (length line)) whole ∙ take-append_seam line (10 ∷ rest) in
    let equal : bytes_eq (take (length line) bytes) line ≡ true = (bytes_eq-Decides (take (length line) bytes) line).1 front in
    cc (same, not, equal)

pub follows : (bytes line : List ℕ) (is : Bool) → is ≡ bytes_eq (take (length line) bytes) line → is ≡ true → length line < length bytes → get_or bytes (length line) 0 ≡ 10
    → bytes ≡ line ++ 10 ∷ drop (length line + 1) bytes
follows bytes line is same equal lt lf =
    cut_at bytes (length line) 10 lt lf ∙ ap (λ (l : List ℕ). l ++ 10 ∷ drop (length line + 1) bytes) ((bytes_eq-Decides (take (length line) bytes) line).0 (sym same ∙ equal))

pub not_true : (b : Bool) → not b ≡ true → b ≡ false
not_true true is = absurd (cc (is))
not_true false is = refl

-- a byte, an LF and what follows
pub two_front : (bytes : List ℕ) (b : ℕ) → 2 ≤ length bytes → get_or bytes 0 0 ≡ b → get_or bytes 1 0 ≡ 10 → bytes ≡ b ∷ 10 ∷ take (length bytes - 2) (drop 2 bytes)
two_front [] b long first lf = absurd (omega (arith, long))
two_front (x ∷ []) b long first lf = absurd (omega (arith, long))
two_front (x ∷ y ∷ bs) b long first lf =
    ap (λ (l : List ℕ). x ∷ y ∷ l) (sym (to_end (x ∷ y ∷ bs) 2)) ∙ ap (λ (c : ℕ). c ∷ y ∷ take (length (x ∷ y ∷ bs) - 2) bs) first ∙ ap (λ (c : ℕ). b ∷ c ∷ take (length (x ∷ y ∷ bs) - 2) bs) lf
