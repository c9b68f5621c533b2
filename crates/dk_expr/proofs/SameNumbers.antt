-- Texts that begin with numbers or with terms, and are the same.
use Rattle.std.specs.Prelude.{◌≡◌, ◌==◌, ◌&&◌, ◌||◌, ◌+◌, ◌-◌, ◌<◌, ◌≤◌, ◌^◌, ℕ, ℤ, zero, suc, pos, negsuc, int_lt, Bool, true, false, not, List, [], ◌∷◌, ◌++◌, codes, drop, length, take, unsigned_abs, if◌then◌else◌, refl}
use Rattle.std.specs.Fmt.{decimal, signed_decimal}
use Rattle.std.specs.List.{list_all, position_or_len}
use Rattle.std.specs.Str.Parse.{AllDigits, digits_value}
use Rattle.std.proofs.Common.{◌∙◌, ap, arith, get_or, inl, inr, subst, sym, append_assoc}
use Rattle.std.proofs.Math.ListN.{get_or-append}
use Rattle.std.proofs.Math.Seq.{get_or-append_right}
use Rattle.std.proofs.lemmas.Bool.{and_parts, cases_lt, eqb-true, false≢true, le-ltb, ne_eqb}
use Rattle.std.proofs.lemmas.Fmt.{decimal_is_IsNumeral_wide}
use Rattle.std.proofs.lemmas.List.{append_cancel_left, drop_at, length-append, take_at}
use Rattle.std.proofs.lemmas.Str.Parse.{digit_from_value}
use Rattle.dk_print.specs.Parts.{sign_text, step_text, term_text, times_text}
use Rattle.dk_expr.specs.Readable.{begins_behind_number, ends_number}
use Rattle.dk_expr.proofs.Numerals.{first_behind, number_plain}

-- texts of one length in front of the same
pub same_front : (xs ys a b : List ℕ) → length xs ≡ length ys → xs ++ a ≡ ys ++ b → (xs ≡ ys) × (a ≡ b)
same_front xs ys a b long e = (
  sym (take_at xs a (length ys) long) ∙ ap (take (length ys)) e ∙ take_at ys b (length ys) refl,
  sym (drop_at xs a (length ys) long) ∙ ap (drop (length ys)) e ∙ drop_at ys b (length ys) refl,
)

-- ---- numbers
same_decimals : (m n : ℕ) → m < 2 ^ 127 → n < 2 ^ 127 → decimal m ≡ decimal n → m ≡ n
same_decimals m n p q e = sym (decimal_is_IsNumeral_wide m (omega arith)).1 ∙ ap (digits_value 10) e ∙ (decimal_is_IsNumeral_wide n (omega arith)).1

no_minus : (n : ℕ) (ds : List ℕ) → n < 2 ^ 127 → decimal n ≡ 45 ∷ ds → ⊥
no_minus n ds p e =
    let all : AllDigits 10 (45 ∷ ds) = subst (AllDigits 10) e (decimal_is_IsNumeral_wide n (omega arith)).0.1 in
    let range = digit_from_value 45 all.0 in
    omega (arith, range)

pub same_signed : (y z : ℤ) → unsigned_abs y < 2 ^ 127 → unsigned_abs z < 2 ^ 127 → signed_decimal y ≡ signed_decimal z → y ≡ z
same_signed (pos m) (pos n) p q e = ap pos (same_decimals m n p q e)
same_signed (pos m) (negsuc n) p q e = absurd (no_minus m (decimal (suc n)) p e)
same_signed (negsuc m) (pos n) p q e = absurd (no_minus n (decimal (suc m)) q (sym e))
same_signed (negsuc m) (negsuc n) p q e =
    let same : suc m ≡ suc n = same_decimals (suc m) (suc n) p q (ap (drop 1) e) in
    ap negsuc (omega (arith, same))

pub same_numbers : (y z : ℤ) (a b : List ℕ) → unsigned_abs y < 2 ^ 127 → unsigned_abs z < 2 ^ 127 → begins_behind_number a ≡ true → begins_behind_number b ≡ true
    → signed_decimal y ++ a ≡ signed_decimal z ++ b → (y ≡ z) × (a ≡ b)
same_numbers y z a b p q c d e =
    let long : length (signed_decimal y) ≡ length (signed_decimal z) =
    sym (first_behind (signed_decimal y) a (number_plain y p) c) ∙ ap (position_or_len ends_number) e ∙ first_behind (signed_decimal z) b (number_plain z q) d in
    let both = same_front (signed_decimal y) (signed_decimal z) a b long e in
    (same_signed y z p q both.0, both.1)

-- ---- a number with its sign
sign_long : (b : Bool) → length (if b then codes " - " else codes " + ") ≡ 3
sign_long true = refl
sign_long false = refl

same_sign : (b c : Bool) → (if b then codes " - " else codes " + ") ≡ (if c then codes " - " else codes " + ") → b ≡ c
same_sign true true e = refl
same_sign false false e = refl
same_sign true false e = absurd (false≢true (ap (λ l. get_or l 1 0 == 43) e))
same_sign false true e = absurd (false≢true (ap (λ l. get_or l 1 0 == 45) e))

by_sign : (k l : ℤ) → int_lt k (pos 0) ≡ int_lt l (pos 0) → unsigned_abs k ≡ unsigned_abs l → k ≡ l
by_sign (pos m) (pos n) s e = ap pos e
by_sign (pos m) (negsuc n) s e = absurd (false≢true (sym (le-ltb m 0 (omega arith)) ∙ s))
by_sign (negsuc m) (pos n) s e = absurd (false≢true (sym (le-ltb n 0 (omega arith)) ∙ sym s))
by_sign (negsuc m) (negsuc n) s e = ap negsuc (omega (arith, e))

pub signs_apart : (k l : ℤ) (x y a b : List ℕ) → (sign_text k ++ x) ++ a ≡ (sign_text l ++ y) ++ b → (int_lt k (pos 0) ≡ int_lt l (pos 0)) × (x ++ a ≡ y ++ b)
signs_apart k l x y a b e =
    let both = same_front (sign_text k) (sign_text l) (x ++ a) (y ++ b) (sign_long (int_lt k (pos 0)) ∙ sym (sign_long (int_lt l (pos 0))))
    (sym (append_assoc (sign_text k) x a) ∙ e ∙ append_assoc (sign_text l) y b) in
    (same_sign (int_lt k (pos 0)) (int_lt l (pos 0)) both.0, both.1)

pub same_steps : (k l : ℤ) (a b : List ℕ) → unsigned_abs k < 2 ^ 127 → unsigned_abs l < 2 ^ 127 → begins_behind_number a ≡ true → begins_behind_number b ≡ true
    → step_text k ++ a ≡ step_text l ++ b → (k ≡ l) × (a ≡ b)
same_steps k l a b p q c d e =
    let both = signs_apart k l (decimal (unsigned_abs k)) (decimal (unsigned_abs l)) a b e in
    let numbers = same_numbers (pos (unsigned_abs k)) (pos (unsigned_abs l)) a b p q c d both.1 in
    (by_sign k l both.0 (ap unsigned_abs numbers.0), numbers.1)

-- ---- a name with its factor
-- what stands behind a term: a blank, and then a sign or a `=`
abbrev pub is_joint : ℕ → Bool
is_joint b = b == 43 || (b == 45 || b == 61)

abbrev pub begins_joint : List ℕ → Bool
begins_joint (a ∷ b ∷ bytes) = a == 32 && is_joint b
begins_joint _ = false

-- a byte of a factor with its `*`
is_factor : ℕ → Bool
is_factor b = not (is_joint b)

at_all : (test : ℕ → Bool) (xs : List ℕ) → list_all test xs ≡ true → (i d : ℕ) → i < length xs → test (get_or xs i d) ≡ true
at_all test [] h i d lt = absurd (omega (arith, lt))
at_all test (x ∷ xs) h zero d lt = (and_parts (test x) (list_all test xs) h).0
at_all test (x ∷ xs) h (suc i) d lt = at_all test xs (and_parts (test x) (list_all test xs) h).1 i d (omega (arith, lt))

module _ (test : ℕ → Bool) (w name a b : List ℕ) (all : list_all test w ≡ true) (some : 2 ≤ length w) (e : name ++ a ≡ w ++ (name ++ b)) where
  -- the text repeats w, as far as the name goes
  repeats : (fuel i : ℕ) → i < fuel → i < length w + length name → test (get_or (name ++ a) i 0) ≡ true
  repeats zero i lt within = absurd (omega (arith, lt))
  repeats (suc fuel) i lt within = elim (cases_lt i (length w)) as (λ _. test (get_or (name ++ a) i 0) ≡ true) [
    | inl front ↦ ap (λ x. test (get_or x i 0)) e ∙ ap test (get_or-append w (name ++ b) 0 i front) ∙ at_all test w all i 0 front
    | inr behind ↦
        let before : i - length w < length name = omega (arith, behind, within) in
        let here : get_or (name ++ a) i 0 ≡ get_or (name ++ a) (i - length w) 0 =
        ap (λ x. get_or x i 0) e
        ∙ get_or-append_right w (name ++ b) i 0 behind
        ∙ get_or-append name b 0 (i - length w) before
        ∙ sym (get_or-append name a 0 (i - length w) before) in
        ap test here ∙ repeats fuel (i - length w) (omega (arith, lt, behind, some)) (omega (arith, before))
  ]

  -- so what is behind the name goes on with it
  pub goes_on : test (get_or a 1 0) ≡ true
  goes_on =
      ap test (ap (λ i. get_or a i 0) (one (length name)) ∙ sym (get_or-append_right name a (length name + 1) 0 (omega arith)))
      ∙ repeats (length name + 2) (length name + 1) (omega arith) (omega (arith, some))
    where
      one : (n : ℕ) → 1 ≡ (n + 1) - n
      one n = omega arith

factor_digits : (ds : List ℕ) → AllDigits 10 ds → list_all is_factor (ds ++ codes " * ") ≡ true
unfolding is_factor
factor_digits [] all = refl
factor_digits (d ∷ ds) all =
    let range = digit_from_value d all.0 in
    let plus : (d == 43) ≡ false = ne_eqb d 43 (λ f. absurd (omega (arith, range))) in
    let minus : (d == 45) ≡ false = ne_eqb d 45 (λ f. absurd (omega (arith, range))) in
    let equal : (d == 61) ≡ false = ne_eqb d 61 (λ f. absurd (omega (arith, range))) in
    rw (plus, minus, equal) (factor_digits ds all.1)

-- a name alone isn't the name with a factor
no_factor : (n : ℕ) (name a b : List ℕ) → n < 2 ^ 127 → begins_joint a ≡ true → name ++ a ≡ (decimal n ++ (codes " * " ++ name)) ++ b → ⊥
unfolding is_factor
no_factor n name [] b p h e = false≢true h
no_factor n name (x ∷ []) b p h e = false≢true h
no_factor n name (x ∷ y ∷ a) b p h e =
    let w : List ℕ = decimal n ++ codes " * " in
    let digits = (decimal_is_IsNumeral_wide n (omega arith)).0.1 in
    let long : length w ≡ length (decimal n) + 3 = length-append (decimal n) (codes " * ") in
    let joint : is_joint y ≡ true = (and_parts (x == 32) (is_joint y) h).1 in
    let other : is_factor y ≡ true =
    goes_on is_factor w name (x ∷ y ∷ a) b (factor_digits (decimal n) digits) (omega (arith, long))
    (e ∙ ap (λ t. t ++ b) (sym (append_assoc (decimal n) (codes " * ") name)) ∙ append_assoc w name b) in
    false≢true (ap not (sym joint) ∙ other)

pub same_times : (m n : ℕ) (name a b : List ℕ) → m < 2 ^ 127 → n < 2 ^ 127 → begins_joint a ≡ true → begins_joint b ≡ true
    → times_text m name ++ a ≡ times_text n name ++ b → (m ≡ n) × (a ≡ b)
same_times m n name a b p q c d e = by (m == 1) (n == 1) refl refl e
  where
    by : (x y : Bool) → (m == 1) ≡ x → (n == 1) ≡ y
        → (if x then name else decimal m ++ codes " * " ++ name) ++ a ≡ (if y then name else decimal n ++ codes " * " ++ name) ++ b → (m ≡ n) × (a ≡ b)
    by true true f g e = (eqb-true m 1 f ∙ sym (eqb-true n 1 g), append_cancel_left name a b e)
    by true false f g e = absurd (no_factor n name a b q c (e ∙ ap (λ t. t ++ b) (append_assoc (decimal n) (codes " * ") name)))
    by false true f g e = absurd (no_factor m name b a p d (sym e ∙ ap (λ t. t ++ a) (append_assoc (decimal m) (codes " * ") name)))
    by false false f g e =
        let front : (k : ℕ) (t : List ℕ) → ((decimal k ++ codes " * ") ++ name) ++ t ≡ decimal k ++ (codes " * " ++ (name ++ t)) =
        λ k t. append_assoc (decimal k ++ codes " * ") name t ∙ append_assoc (decimal k) (codes " * ") (name ++ t) in
        let numbers = same_numbers (pos m) (pos n) (codes " * " ++ (name ++ a)) (codes " * " ++ (name ++ b)) p q refl refl (sym (front m a) ∙ e ∙ front n b) in
        (ap unsigned_abs numbers.0, append_cancel_left name a b (append_cancel_left (codes " * ") (name ++ a) (name ++ b) numbers.1))

pub same_terms : (k l : ℤ) (name a b : List ℕ) → unsigned_abs k < 2 ^ 127 → unsigned_abs l < 2 ^ 127 → begins_joint a ≡ true → begins_joint b ≡ true
    → term_text k name ++ a ≡ term_text l name ++ b → (k ≡ l) × (a ≡ b)
same_terms k l name a b p q c d e =
    let both = signs_apart k l (times_text (unsigned_abs k) name) (times_text (unsigned_abs l) name) a b e in
    let numbers = same_times (unsigned_abs k) (unsigned_abs l) name a b p q c d both.1 in
    (by_sign k l both.0 numbers.0, numbers.1)
