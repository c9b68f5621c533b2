-- Words and numbers, as they are read back.
use Rattle.std.proofs.Common.{◌≡◌, ◌<◌, ◌≤◌, ◌-◌, ◌^◌, ◌∙◌, ◌==◌, ◌&&◌, ◌∷◌, ◌++◌, [], ℕ, ℤ, pos, negsuc, Bool, true, false, List, All, IsTrue, Some, length, refl, sym, ap, length-append, suc, arith, nat_lt}
use Rattle.std.specs.Prelude.{not, slice_index}
use Rattle.std.specs.Char.{digit_value, is_digit}
use Rattle.std.specs.Fmt.{decimal, signed_decimal}
use Rattle.std.specs.List.{list_all, slice_split}
use Rattle.std.specs.Str.Parse.{AllDigits, IsNumeral, digits_value}
use Rattle.std.proofs.Math.Seq.{get_or-append_seam, take-append_seam}
use Rattle.std.proofs.lemmas.Bool.{and_parts, cond_both, false≢true, lt-ltb, ltb-false, ltb-true, ne_eqb, not-true}
use Rattle.std.proofs.lemmas.Fmt.{decimal_is_IsNumeral}
use Rattle.std.proofs.lemmas.List.Elements.{All-append, All-cons, All-nil}
use Rattle.std.proofs.lemmas.List.Splits.{slice_split_at, slice_split_none}
use Rattle.dk_base.specs.Numbers.{fits_i64, integer_of, natural_of, numeral_of, whole_of}
use Rattle.dk_base.specs.Pieces.{is_blank, is_empty, nonempty}
use Rattle.dk_base.specs.Words.{without_front, words}
use Rattle.dk_base.specs.declared.kinds.Compar.{Compar}
use Rattle.dk_base.proofs.Parted.{words_are_parts}
use Rattle.dk_base.proofs.Splits.{kept}
use Rattle.dk_decl.specs.Brackets.{bracket_parts, compar_of, index_number, index_of, numbers_of}
use Rattle.dk_decl.specs.Heads.{id_of}
use Rattle.dk_write.specs.Declarations.{compar_text}
use Rattle.dk_write.specs.Names.{has_none, is_line, is_word, last_byte}

-- ---- words

abbrev pub NoBlanks : List ℕ → Type 0
NoBlanks w = list_all (λ b. not (is_blank b)) w ≡ true

no_blanks_each : (w : List ℕ) → NoBlanks w → All (λ b. is_blank b ≡ false) w
no_blanks_each [] h = All-nil (λ b. is_blank b ≡ false)
no_blanks_each (b ∷ w) h =
    let both = and_parts (not (is_blank b)) (list_all (λ c. not (is_blank c)) w) h in
    All-cons (λ c. is_blank c ≡ false) b w (not-true (is_blank b) both.0) (no_blanks_each w both.1)

-- a word and a blank stand in front of the other words
pub first_of_words : (w rest : List ℕ) → NoBlanks w → 0 < length w → words (w ++ 32 ∷ rest) ≡ w ∷ words rest
first_of_words w rest h some =
    words_are_parts (w ++ 32 ∷ rest)
    ∙ ap nonempty (slice_split_at is_blank w 32 rest (no_blanks_each w h) refl)
    ∙ kept w (slice_split is_blank rest) some
    ∙ ap (λ (ws : List (List ℕ)). w ∷ ws) (sym (words_are_parts rest))

pub one_word : (w : List ℕ) → NoBlanks w → 0 < length w → words w ≡ w ∷ []
one_word w h some = words_are_parts w ∙ ap nonempty (slice_split_none is_blank w (no_blanks_each w h)) ∙ kept w [] some

-- ---- lines

pub record IsLine (l : List ℕ) : Type 0 where
  pub some : is_empty l ≡ false
  pub no_lf : has_none 10 l ≡ true
  pub first : is_blank (slice_index l 0) ≡ false
  pub last : is_blank (last_byte l) ≡ false
  pub no_cr : (last_byte l == 13) ≡ false

pub is_line_parts : (l : List ℕ) → is_line l ≡ true → IsLine l
unfolding is_line
is_line_parts l h =
    let a = and_parts (not (is_empty l)) (has_none 10 l && (not (is_blank (slice_index l 0)) && (not (is_blank (last_byte l)) && not (last_byte l == 13)))) h in
    let b = and_parts (has_none 10 l) (not (is_blank (slice_index l 0)) && (not (is_blank (last_byte l)) && not (last_byte l == 13))) a.1 in
    let c = and_parts (not (is_blank (slice_index l 0))) (not (is_blank (last_byte l)) && not (last_byte l == 13)) b.1 in
    let d = and_parts (not (is_blank (last_byte l))) (not (last_byte l == 13)) c.1 in
    record {
      some = not-true (is_empty l) a.0;
      no_lf = b.0;
      first = not-true (is_blank (slice_index l 0)) c.0;
      last = not-true (is_blank (last_byte l)) d.0;
      no_cr = not-true (last_byte l == 13) d.1;
    }

pub not_none : (l : List ℕ) → is_empty l ≡ false → 0 < length l
not_none [] h = absurd (false≢true (sym h))
not_none (b ∷ bs) h = omega arith

-- nothing is taken from the front of a line
pub front_kept : (l : List ℕ) → is_line l ≡ true → without_front l ≡ l
front_kept l h = go l (is_line_parts l h).first
  where
    go : (l : List ℕ) → is_blank (slice_index l 0) ≡ false → without_front l ≡ l
    go [] h = refl
    go (b ∷ bs) h = rw h refl

pub word_is_line : (w : List ℕ) → is_word w ≡ true → is_line w ≡ true
unfolding is_word
word_is_line w h = (and_parts (is_line w) (has_none 32 w && has_none 9 w) h).0

no_blanks_in : (w : List ℕ) → has_none 32 w ≡ true → has_none 9 w ≡ true → NoBlanks w
no_blanks_in [] h k = refl
no_blanks_in (b ∷ w) h k =
    let blank = and_parts (not (b == 32)) (has_none 32 w) h in
    let tab = and_parts (not (b == 9)) (has_none 9 w) k in
    rw (not-true (b == 32) blank.0, not-true (b == 9) tab.0) (no_blanks_in w blank.1 tab.1)

pub word_no_blanks : (w : List ℕ) → is_word w ≡ true → NoBlanks w
unfolding is_word
word_no_blanks w h =
    let all = and_parts (is_line w) (has_none 32 w && has_none 9 w) h in
    let both = and_parts (has_none 32 w) (has_none 9 w) all.1 in
    no_blanks_in w both.0 both.1

pub word_some : (w : List ℕ) → is_word w ≡ true → 0 < length w
word_some w h = not_none w (is_line_parts w (word_is_line w h)).some

-- ---- numbers

-- a byte of a decimal number: a digit, or the minus (45)
abbrev pub is_number_byte : ℕ → Bool
is_number_byte b = nat_lt 44 b && nat_lt b 58

digit_range : (b : ℕ) → digit_value b < 10 → (48 ≤ b) × (b ≤ 57)
digit_range b h =
    let P : ℕ → Type 0 = λ v. v < 10 → (48 ≤ b) × (b ≤ 57) in
    cond_both (nat_lt b 48) 36 _ P (λ e small. absurd (omega arith))
    (λ low. cond_both (nat_lt b 58) (b - 48) _ P (λ high small. (ltb-false b 48 low, omega (arith, ltb-true b 58 high)))
    (λ high. cond_both (nat_lt b 65) 36 _ P (λ e small. absurd (omega arith))
    (λ e. cond_both (nat_lt b 91) (b - 55) _ P (λ f small. absurd (omega (arith, ltb-false b 65 e)))
    (λ f. cond_both (nat_lt b 97) 36 _ P (λ g small. absurd (omega arith))
    (λ g. cond_both (nat_lt b 123) (b - 87) 36 P (λ k small. absurd (omega (arith, ltb-false b 97 g))) (λ k small. absurd (omega arith)))))))
    h

digits_pass : (ds : List ℕ) → AllDigits 10 ds → list_all (λ d. is_digit d 10) ds ≡ true
digits_pass [] all = refl
digits_pass (d ∷ ds) all = rw (lt-ltb (digit_value d) 10 all.0) (digits_pass ds all.1)

numeral_back : (ds : List ℕ) (n : ℕ) → IsNumeral 10 ds → digits_value 10 ds ≡ n → numeral_of 10 ds ≡ Some n
numeral_back ds n all is =
    rw (lt-ltb 0 (length ds) all.0, digits_pass ds all.1) (ap (λ (m : ℕ). Some m) is)

digit_bytes : (ds : List ℕ) → AllDigits 10 ds → list_all is_number_byte ds ≡ true
digit_bytes [] all = refl
digit_bytes (d ∷ ds) all =
    let range : (48 ≤ d) × (d ≤ 57) = digit_range d all.0 in
    let low : nat_lt 44 d ≡ true = lt-ltb 44 d (omega arith) in
    let high : nat_lt d 58 ≡ true = lt-ltb d 58 (omega arith) in
    rw (low, high) (digit_bytes ds all.1)

pub decimal_bytes : (n : ℕ) → n < 2 ^ 64 → list_all is_number_byte (decimal n) ≡ true
decimal_bytes n small = digit_bytes (decimal n) (decimal_is_IsNumeral n small).0.1

pub decimal_some : (n : ℕ) → n < 2 ^ 64 → 0 < length (decimal n)
decimal_some n small = (decimal_is_IsNumeral n small).0.0

natural_back : (n : ℕ) → n < 2 ^ 64 → natural_of (decimal n) ≡ Some n
unfolding natural_of
natural_back n small =
    let h = decimal_is_IsNumeral n small in
    rw (numeral_back (decimal n) n h.0 h.1, lt-ltb n (2 ^ 64) small) refl

pub id_back : (n : ℕ) → n < 2 ^ 32 → id_of (decimal n) ≡ Some n
unfolding id_of
id_back n small = rw (natural_back n (omega arith), lt-ltb n (2 ^ 32) small) refl

whole_plain : (ds : List ℕ) (n : ℕ) → IsNumeral 10 ds → digits_value 10 ds ≡ n → whole_of ds ≡ Some (pos n)
unfolding whole_of
whole_plain [] n all is = absurd (omega (arith, all.0))
whole_plain (b ∷ bs) n all is =
    let range : (48 ≤ b) × (b ≤ 57) = digit_range b all.1.0 in
    let not_minus : (b == 45) ≡ false = ne_eqb b 45 (λ e. absurd (omega arith)) in
    rw (not_minus, numeral_back (b ∷ bs) n all is) refl

whole_minus : (ds : List ℕ) (n : ℕ) → IsNumeral 10 ds → digits_value 10 ds ≡ suc n → whole_of (45 ∷ ds) ≡ Some (negsuc n)
unfolding whole_of
whole_minus ds n all is = rw (numeral_back ds (suc n) all is) refl

whole_back : (z : ℤ) → IsTrue (fits_i64 z) → whole_of (signed_decimal z) ≡ Some z
whole_back (pos n) fits =
    let small : n < 2 ^ 63 = ltb-true n (2 ^ 63) fits in
    let h = decimal_is_IsNumeral n (omega arith) in
    whole_plain (decimal n) n h.0 h.1
whole_back (negsuc n) fits =
    let small : n < 2 ^ 63 = ltb-true n (2 ^ 63) fits in
    let h = decimal_is_IsNumeral (suc n) (omega arith) in
    whole_minus (decimal (suc n)) n h.0 h.1

pub integer_back : (z : ℤ) → IsTrue (fits_i64 z) → integer_of (signed_decimal z) ≡ Some z
unfolding integer_of
integer_back z fits = rw (whole_back z fits, fits) refl

pub signed_bytes : (z : ℤ) → IsTrue (fits_i64 z) → list_all is_number_byte (signed_decimal z) ≡ true
signed_bytes (pos n) fits = decimal_bytes n (omega (arith, ltb-true n (2 ^ 63) fits))
signed_bytes (negsuc n) fits = decimal_bytes (suc n) (omega (arith, ltb-true n (2 ^ 63) fits))

pub signed_some : (z : ℤ) → IsTrue (fits_i64 z) → 0 < length (signed_decimal z)
signed_some (pos n) fits = decimal_some n (omega (arith, ltb-true n (2 ^ 63) fits))
signed_some (negsuc n) fits = omega arith

pub number_range : (b : ℕ) → is_number_byte b ≡ true → (44 < b) × (b < 58)
number_range b h =
    let both = and_parts (nat_lt 44 b) (nat_lt b 58) h in
    (ltb-true 44 b both.0, ltb-true b 58 both.1)

-- a number has no other bytes
pub number_has_none : (c : ℕ) (ds : List ℕ) → is_number_byte c ≡ false → list_all is_number_byte ds ≡ true → All (λ b. (b == c) ≡ false) ds
number_has_none c [] other h = All-nil (λ b. (b == c) ≡ false)
number_has_none c (d ∷ ds) other h =
    let both = and_parts (is_number_byte d) (list_all is_number_byte ds) h in
    All-cons (λ b. (b == c) ≡ false) d ds (ne_eqb d c (λ e. false≢true (sym other ∙ ap is_number_byte (sym e) ∙ both.0))) (number_has_none c ds other both.1)

pub number_no_blanks : (ds : List ℕ) → list_all is_number_byte ds ≡ true → NoBlanks ds
number_no_blanks [] h = refl
number_no_blanks (d ∷ ds) h =
    let both = and_parts (is_number_byte d) (list_all is_number_byte ds) h in
    let range = number_range d both.0 in
    let blank : (d == 32) ≡ false = ne_eqb d 32 (λ e. absurd (omega (arith, range))) in
    let tab : (d == 9) ≡ false = ne_eqb d 9 (λ e. absurd (omega (arith, range))) in
    rw (blank, tab) (number_no_blanks ds both.1)

-- ---- comparabilities

index_back : (text : List ℕ) → index_of (text ++ 93 ∷ []) ≡ integer_of text
unfolding index_of
index_back text =
    let some : nat_lt 0 (length (text ++ 93 ∷ [])) ≡ true = lt-ltb 0 (length (text ++ 93 ∷ [])) (omega (arith, length-append text (93 ∷ []))) in
    let last : length (text ++ 93 ∷ []) - 1 ≡ length text = omega (arith, length-append text (93 ∷ [])) in
    rw (some, last, get_or-append_seam text 93 [] 0, take-append_seam text (93 ∷ [])) refl

bracketed : (elem index : List ℕ) → list_all is_number_byte elem ≡ true → list_all is_number_byte index ≡ true
    → bracket_parts (elem ++ 91 ∷ (index ++ 93 ∷ [])) ≡ elem ∷ (index ++ 93 ∷ []) ∷ []
unfolding bracket_parts
bracketed elem index h k =
    slice_split_at (λ b. b == 91) elem 91 (index ++ 93 ∷ []) (number_has_none 91 elem refl h) refl
    ∙ ap (λ (ps : List (List ℕ)). elem ∷ ps) (no_bracket index (number_has_none 91 index refl k))
  where
    no_bracket : (index : List ℕ) → All (λ b. (b == 91) ≡ false) index → slice_split (λ b. b == 91) (index ++ 93 ∷ []) ≡ (index ++ 93 ∷ []) ∷ []
    no_bracket index all =
        slice_split_none (λ b. b == 91) (index ++ 93 ∷ [])
        (All-append (λ b. (b == 91) ≡ false) index (93 ∷ []) all (All-cons (λ b. (b == 91) ≡ false) 93 [] refl (All-nil (λ b. (b == 91) ≡ false))))

pub compar_back : (c : Compar) → IsTrue (fits_i64 c.elem) → IsTrue (fits_i64 c.index) → compar_of (compar_text c) ≡ Some c
unfolding compar_of numbers_of index_number
compar_back c elem index =
    rw (
      bracketed (signed_decimal c.elem) (signed_decimal c.index) (signed_bytes c.elem elem) (signed_bytes c.index index),
      integer_back c.elem elem,
      index_back (signed_decimal c.index),
      integer_back c.index index,
    ) refl
