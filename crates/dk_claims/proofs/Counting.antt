-- Counts at the ends of texts, and texts without one.
use Rattle.std.proofs.Common.{◌≡◌, ◌∙◌, ◌+◌, ◌-◌, ◌<◌, ◌≤◌, ◌&&◌, ◌||◌, ◌==◌, ◌++◌, not, sym, ap, subst, refl, suc, zero, get_or, true≢false, arith, codes, drop, length, take, reverse, nat_eq, ℕ, Bool, true, false, cond, List, [], ◌∷◌, append_assoc, length-append}
use Rattle.std.proofs.Common.{Bor, MatchOption, Option, Some, None}
use Rattle.std.specs.Char.{is_ascii_digit}
use Rattle.std.specs.List.{ends_with, list_all, prefix_len, starts_with, suffix_len}
use Rattle.dk_base.specs.Pieces.{is_empty}
use Rattle.std.proofs.lemmas.Bool.{and_from, and_parts}
use Rattle.std.proofs.lemmas.Bool.Decides.{Decides-eqb}
use Rattle.std.proofs.lemmas.List.{append_cancel_left, append_cancel_right, length-reverse, reverse-append, take_all}
use Rattle.std.proofs.lemmas.List.Folds.{list_all-append}
use Rattle.std.proofs.lemmas.List.Sums.{suffix_len-take_no}
use Rattle.std.proofs.lemmas.Slice.Eq.{ends_is, starts_is}
use Rattle.std.proofs.Math.Seq.{take-append-add, take-append_seam}
use Rattle.dk_claims.specs.Counts.{count_of, is_count, is_number, without_count}
use Rattle.dk_claims.specs.Steps.{IsWithoutDigits}

-- ---- what a count is
-- a count is one
count_is : (number : List ℕ) → is_number number ≡ true → is_count (count_of number) ≡ true
count_is number h =
    let text : List ℕ = count_of number in
    let starts : starts_with nat_eq text (codes "  [") ≡ true =
    (starts_is Decides-eqb text (codes "  [") _ refl).1 (number ++ codes "]") refl in
    let ends : ends_with nat_eq text (codes "]") ≡ true = (ends_is Decides-eqb text (codes "]") _ refl).1 (codes "  [" ++ number) refl in
    let size : length text - 4 ≡ length number = omega (arith, length-append number (codes "]")) in
    let middle : take (length text - 4) (drop 3 text) ≡ number =
    ap (λ (n : ℕ). take n (number ++ codes "]")) size ∙ take-append_seam number (codes "]") in
    and_from _ _ (and_from _ _ starts ends) (ap is_number middle ∙ h)

-- numbers have digits
number_size : (number : List ℕ) → is_number number ≡ true → 0 < length number
number_size [] h = absurd (cc (h))
number_size (b ∷ bs) h = omega arith

-- a text that is a count, by its number
record IsCount (text : List ℕ) : Type 0 where
  number : List ℕ
  is : is_number number ≡ true
  digits : list_all is_ascii_digit number ≡ true
  same : text ≡ count_of number

-- what stands in front of the last byte, behind the first three
between : (rest : List ℕ) (n : ℕ) → n + 1 ≡ length rest → codes "  [" ++ rest ≡ take (length (codes "  [" ++ rest) - 1) (codes "  [" ++ rest) ++ codes "]"
    → rest ≡ take n rest ++ codes "]"
between rest n size h =
    let len : length (codes "  [" ++ rest) - 1 ≡ length (codes "  [") + n = omega (arith, size) in
    let front : take (length (codes "  [" ++ rest) - 1) (codes "  [" ++ rest) ≡ codes "  [" ++ take n rest =
    ap (λ (k : ℕ). take k (codes "  [" ++ rest)) len ∙ take-append-add (codes "  [") rest n in
    append_cancel_left (codes "  [") _ _ (h ∙ ap (λ (l : List ℕ). l ++ codes "]") front)

is_one : (text : List ℕ) → is_count text ≡ true → IsCount text
is_one text h =
    let parts = and_parts _ _ h in
    let ends_parts = and_parts _ _ parts.0 in
    let rest : List ℕ = drop 3 text in
    let starts : text ≡ codes "  [" ++ rest = (starts_is Decides-eqb text (codes "  [") _ refl).0 ends_parts.0 in
    let ends : text ≡ take (length text - 1) text ++ codes "]" = (ends_is Decides-eqb text (codes "]") _ refl).0 ends_parts.1 in
    let number : List ℕ = take (length text - 4) rest in
    let some : 0 < length number = number_size number parts.1 in
    let size : length text ≡ 3 + length rest = ap length starts ∙ length-append (codes "  [") rest in
    let few : 0 < length text - 4 = at_least (length text - 4) rest some in
    let ends_so : codes "  [" ++ rest ≡ take (length (codes "  [" ++ rest) - 1) (codes "  [" ++ rest) ++ codes "]" =
    subst (λ (l : List ℕ). l ≡ take (length l - 1) l ++ codes "]") starts ends in
    record {
      number = number;
      is = parts.1;
      digits = (and_parts _ _ parts.1).1;
      same = starts ∙ ap (λ (l : List ℕ). codes "  [" ++ l) (between rest (length text - 4) (omega (arith, size, few)) ends_so);
    } where
      at_least : (n : ℕ) (l : List ℕ) → 0 < length (take n l) → 0 < n
      at_least zero l e = e
      at_least (suc n) l e = omega arith

-- ---- the first place where a count is left
is_end : ℕ → Bool
is_end b = is_ascii_digit b || b == 93

digits_end : (bs : List ℕ) → list_all is_ascii_digit bs ≡ true → list_all is_end (bs ++ codes "]") ≡ true
unfolding is_end
digits_end [] h = refl
digits_end (b ∷ bs) h =
    let parts = and_parts _ _ h in
    and_from _ _ (ap (λ (x : Bool). x || b == 93) parts.0) (digits_end bs parts.1)

with_blank : (front rest : List ℕ) → list_all is_end (front ++ 32 ∷ rest) ≡ false
unfolding is_end
with_blank front rest = list_all-append is_end front (32 ∷ rest) ∙ none (list_all is_end front) where
  none : (x : Bool) → (x && false) ≡ false
  none true = refl
  none false = refl

-- the third byte of a text
third : List ℕ → ℕ
third l = get_or l 2 0

apart : (b : ℕ) → b ≡ 32 → b ≡ 91 → ⊥
apart b blank bracket = omega arith

-- no count has a count behind some bytes of its own
no_longer : (b : ℕ) (front number m : List ℕ) → list_all is_ascii_digit m ≡ true → b ∷ (front ++ (32 ∷ 32 ∷ 91 ∷ number)) ≡ 32 ∷ 32 ∷ 91 ∷ (m ++ codes "]") → ⊥
unfolding third
no_longer b [] number m all e = apart 32 refl (ap third e)
no_longer b (x ∷ []) number m all e = apart 32 refl (ap third e)
no_longer b (x ∷ y ∷ front) number m all e =
    let tails : front ++ (32 ∷ 32 ∷ 91 ∷ number) ≡ m ++ codes "]" = ap (drop 3) e in
    true≢false (sym (digits_end m all) ∙ ap (list_all is_end) (sym tails) ∙ with_blank front (32 ∷ 91 ∷ number))

not_yet : (b : ℕ) (front number : List ℕ) → is_count (b ∷ front ++ count_of number) ≡ false
not_yet b front number = go (is_count (b ∷ front ++ count_of number)) refl where
  go : (x : Bool) → is_count (b ∷ front ++ count_of number) ≡ x → x ≡ false
  go false e = refl
  go true e =
      let c = is_one _ e in
      absurd (no_longer b front (number ++ codes "]") c.number c.digits c.same)

pub last_count_is_taken_off : (text number : List ℕ) → is_number number ≡ true → without_count (text ++ count_of number) ≡ text
unfolding without_count
last_count_is_taken_off [] number h = rw (count_is number h) refl
last_count_is_taken_off (b ∷ bs) number h = rw (not_yet b bs number) (ap (λ (l : List ℕ). b ∷ l) (last_count_is_taken_off bs number h))

pub without_count_fits : (text : List ℕ) → length (without_count text) ≤ length text
unfolding without_count
without_count_fits [] = omega arith
without_count_fits (b ∷ bs) = go (is_count (b ∷ bs)) (without_count_fits bs) where
  go : (x : Bool) → length (without_count bs) ≤ length bs → length (cond x [] (b ∷ without_count bs)) ≤ length (b ∷ bs)
  go true rest = omega arith
  go false rest = omega (arith, rest)

-- no count is at the end of a text
abbrev pub HasNone : List ℕ → Type 0
HasNone text = (front number : List ℕ) → is_number number ≡ true → text ≡ front ++ count_of number → ⊥

pub other_texts_stay : (text : List ℕ) → HasNone text → without_count text ≡ text
unfolding without_count
other_texts_stay [] h = refl
other_texts_stay (b ∷ bs) h =
    rw (none (is_count (b ∷ bs)) refl) (ap (λ (l : List ℕ). b ∷ l)
    (other_texts_stay bs (λ front number is e. h (b ∷ front) number is (ap (λ (l : List ℕ). b ∷ l) e)))) where
      none : (x : Bool) → is_count (b ∷ bs) ≡ x → is_count (b ∷ bs) ≡ false
      none false e = e
      none true e = let c = is_one (b ∷ bs) e in absurd (h [] c.number c.is c.same)

-- ---- taking a count off from the end
all_reversed : (bs : List ℕ) → list_all is_ascii_digit (reverse bs) ≡ list_all is_ascii_digit bs
all_reversed [] = refl
all_reversed (b ∷ bs) =
    ap (list_all is_ascii_digit) (reverse-append (b ∷ []) bs) ∙ list_all-append is_ascii_digit (reverse bs) (b ∷ [])
    ∙ ap (λ (x : Bool). x && (is_ascii_digit b && true)) (all_reversed bs) ∙ swapped (list_all is_ascii_digit bs) (is_ascii_digit b) where
      swapped : (x y : Bool) → (x && (y && true)) ≡ (y && x)
      swapped true true = refl
      swapped true false = refl
      swapped false true = refl
      swapped false false = refl

prefix_of_all : (bs rest : List ℕ) → list_all is_ascii_digit bs ≡ true → prefix_len is_ascii_digit (bs ++ rest) ≡ length bs + prefix_len is_ascii_digit rest
prefix_of_all [] rest h = omega arith
prefix_of_all (b ∷ bs) rest h =
    let parts = and_parts _ _ h in
    ap (λ (x : Bool). cond x (1 + prefix_len is_ascii_digit (bs ++ rest)) 0) parts.0 ∙ omega (arith, prefix_of_all bs rest parts.1)

-- digits at the end of a text, behind a byte that is none or behind nothing
pub digits_are_all : (front digits : List ℕ) → list_all is_ascii_digit digits ≡ true → prefix_len is_ascii_digit (reverse front) ≡ 0
    → length digits ≡ suffix_len is_ascii_digit (front ++ digits)
digits_are_all front digits all none =
    sym (ap (prefix_len is_ascii_digit) (reverse-append front digits) ∙ prefix_of_all (reverse digits) (reverse front) (all_reversed digits ∙ all)
    ∙ omega (arith, none, length-reverse digits))

pub no_digit_last : (front : List ℕ) → 1 ≤ length front → is_ascii_digit (get_or front (length front - 1) 0) ≡ false → prefix_len is_ascii_digit (reverse front) ≡ 0
no_digit_last front some last =
    ap (suffix_len is_ascii_digit) (sym (take_all (length front) front (omega arith)))
    ∙ suffix_len-take_no is_ascii_digit front (length front) 0 some (omega arith) last

pub nothing_last : (front : List ℕ) → length front < 1 → prefix_len is_ascii_digit (reverse front) ≡ 0
nothing_last [] h = refl
nothing_last (b ∷ bs) h = absurd (omega arith)

-- all digits of a text are taken off its end
pub without_all : (text front digits : List ℕ) → text ≡ front ++ digits → list_all is_ascii_digit digits ≡ true
    → prefix_len is_ascii_digit (reverse front) ≡ 0 → IsWithoutDigits text front
without_all text front digits split are none = record {
  digits = digits;
  split = split;
  are_digits = are;
  are_all = digits_are_all front digits are none ∙ ap (suffix_len is_ascii_digit) (sym split);
}

pub no_bracket : (text : List ℕ) → ((front : List ℕ) → text ≡ front ++ codes "]" → ⊥) → without_count text ≡ text
no_bracket text none =
    other_texts_stay text (λ front number is e. none (front ++ (codes "  [" ++ number)) (e ∙ sym (append_assoc front (codes "  [" ++ number) (codes "]"))))

-- what is left in front of the bracket and the digits of a text with a count
record IsOpened (front number opened digits : List ℕ) : Type 0 where
  opened_is : opened ≡ front ++ codes "  ["
  digits_are : length digits ≡ length number

opened_by : (text numbered opened front number : List ℕ) → text ≡ numbered ++ codes "]" → (w : IsWithoutDigits numbered opened) → is_number number ≡ true
    → text ≡ front ++ count_of number → IsOpened front number opened w.digits
opened_by text numbered opened front number closes w is e =
    let same : numbered ≡ (front ++ codes "  [") ++ number =
    append_cancel_right _ _ (codes "]") (sym closes ∙ e ∙ sym (append_assoc front (codes "  [" ++ number) (codes "]")))
    ∙ sym (append_assoc front (codes "  [") number) in
    let bracket : prefix_len is_ascii_digit (reverse (front ++ codes "  [")) ≡ 0 =
    ap (prefix_len is_ascii_digit) (reverse-append front (codes "  [")) in
    let size : length w.digits ≡ length number =
    w.are_all ∙ ap (suffix_len is_ascii_digit) same ∙ sym (digits_are_all (front ++ codes "  [") number (and_parts (not (is_empty number)) (list_all is_ascii_digit number) is).1 bracket) in
    let both : opened ++ w.digits ≡ (front ++ codes "  [") ++ number = sym w.split ∙ same in
    let sizes : length opened ≡ length (front ++ codes "  [") =
    omega (arith, ap length both, length-append opened w.digits, length-append (front ++ codes "  [") number, size) in
    record {
      opened_is = sym (take-append_seam opened w.digits) ∙ ap (λ (n : ℕ). take n (opened ++ w.digits)) sizes
          ∙ ap (take (length (front ++ codes "  ["))) both ∙ take-append_seam (front ++ codes "  [") number;
      digits_are = size;
    }

pub no_digits : (text numbered opened : List ℕ) → text ≡ numbered ++ codes "]" → IsWithoutDigits numbered opened → length opened ≡ length numbered
    → without_count text ≡ text
no_digits text numbered opened closes w same =
    other_texts_stay text (λ front number is e.
    let o = opened_by text numbered opened front number closes w is e in
    let some : 0 < length number = number_size number is in
    let none : length w.digits ≡ 0 = omega (arith, ap length w.split, length-append opened w.digits, same) in
    let so : length w.digits ≡ length number = o.digits_are in
    absurd (omega (arith, some, none, so)))

pub no_opening : (text numbered opened : List ℕ) → text ≡ numbered ++ codes "]" → IsWithoutDigits numbered opened
    → ((front : List ℕ) → opened ≡ front ++ codes "  [" → ⊥) → without_count text ≡ text
no_opening text numbered opened closes w none =
    other_texts_stay text (λ front number is e. none front (opened_by text numbered opened front number closes w is e).opened_is)

number_of : (digits : List ℕ) → 0 < length digits → list_all is_ascii_digit digits ≡ true → is_number digits ≡ true
number_of [] some all = absurd (omega arith)
number_of (b ∷ bs) some all = all

pub opening : (text numbered opened front : List ℕ) → text ≡ numbered ++ codes "]" → IsWithoutDigits numbered opened → (length opened ≡ length numbered → ⊥)
    → opened ≡ front ++ codes "  [" → without_count text ≡ front
opening text numbered opened front closes w fewer is =
    let some : 0 < length w.digits = more (ap length w.split ∙ length-append opened w.digits) fewer in
    let whole : text ≡ front ++ count_of w.digits =
    closes ∙ ap (λ (l : List ℕ). l ++ codes "]") (w.split ∙ ap (λ (l : List ℕ). l ++ w.digits) is ∙ append_assoc front (codes "  [") w.digits)
    ∙ append_assoc front (codes "  [" ++ w.digits) (codes "]") in
    ap without_count whole ∙ last_count_is_taken_off front w.digits (number_of w.digits some w.are_digits) where
      more : {m n k : ℕ} → n ≡ m + k → (m ≡ n → ⊥) → 0 < k
      more {m} {n} {k} e h = grind arith

-- by what stands in front of the digits
pub front_is : (text numbered opened : List ℕ) → text ≡ numbered ++ codes "]" → IsWithoutDigits numbered opened → (length opened ≡ length numbered → ⊥)
    → (r : Option (Bor (List ℕ))) → MatchOption r ((front : List ℕ) → opened ≡ front ++ codes "  [" → ⊥) (λ x. opened ≡ x.now ++ codes "  [")
    → MatchOption r (without_count text ≡ text) (λ front. without_count text ≡ front.now)
front_is text numbered opened closes w fewer None none = no_opening text numbered opened closes w none
front_is text numbered opened closes w fewer (Some x) is = opening text numbered opened x.now closes w fewer is
