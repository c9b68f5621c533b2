-- Where the text of a value ends.
use Rattle.std.specs.Prelude.{◌≡◌, ◌==◌, ◌&&◌, ◌+◌, ◌<◌, ◌^◌, ℕ, ℤ, suc, pos, negsuc, All, Bool, IsTrue, true, false, not, List, [], ◌∷◌, ◌++◌, codes, drop, flat_map, length, map, unsigned_abs, if◌then◌else◌, refl}
use Rattle.std.specs.Fmt.{decimal, signed_decimal}
use Rattle.std.specs.List.{join_by, list_all, position_or_len}
use Rattle.std.specs.Str.{bytes_eq}
use Rattle.std.specs.Str.Parse.{AllDigits}
use Rattle.std.proofs.Common.{◌∙◌, ap, arith, drop-cons, get_or, inl, inr, sym, append_assoc}
use Rattle.std.proofs.lemmas.Bool.{and_parts, eqb-true, false≢true, ne_eqb, or_cases}
use Rattle.std.proofs.lemmas.Fmt.{decimal_is_IsNumeral_wide}
use Rattle.std.proofs.lemmas.List.{append_cancel_left}
use Rattle.std.proofs.lemmas.List.Elements.{All-head, All-tail}
use Rattle.std.proofs.lemmas.Slice.Eq.{bytes_eq-Decides}
use Rattle.std.proofs.lemmas.Str.Parse.{digit_from_value}
use Rattle.dk_base.specs.Values.Items.{closes_quote, is_quoted, is_text}
use Rattle.dk_base.specs.Pieces.{is_empty}
use Rattle.dk_print.specs.Parts.{values_text}
use Rattle.dk_expr.specs.Readable.{begins_behind_number, ends_number}
use Rattle.dk_expr.specs.Valued.{IsValueText, begins_behind_value, is_value_text, quoted_end, value_end}
use Rattle.dk_expr.proofs.Numerals.{HasNone, first_behind, number_plain}
use Rattle.dk_expr.proofs.SameNumbers.{same_front}

-- ---- in quotes
pub quoted_length : (escaped : Bool) (bs more : List ℕ) → closes_quote escaped bs ≡ true → quoted_end escaped (bs ++ more) ≡ length bs
quoted_length escaped [] more h = absurd (false≢true h)
quoted_length escaped (b ∷ bs) more h = by (b == 10) (not escaped && b == 34) h (quoted_length (not escaped && b == 92) bs more)
  where
    one : (bs : List ℕ) → is_empty bs ≡ true → 1 ≡ length (b ∷ bs)
    one [] e = refl
    one (c ∷ bs) e = absurd (false≢true e)

    by : (lf quote : Bool) → (if lf then false else if quote then is_empty bs else closes_quote (not escaped && b == 92) bs) ≡ true
        → (closes_quote (not escaped && b == 92) bs ≡ true → quoted_end (not escaped && b == 92) (bs ++ more) ≡ length bs)
        → (if quote then 1 else quoted_end (not escaped && b == 92) (bs ++ more) + 1) ≡ length (b ∷ bs)
    by true quote h next = absurd (false≢true h)
    by false true h next = one bs h
    by false false h next = let rest = next h in omega (arith, rest)

-- one byte more of a string
module _ (escaped : Bool) (bytes : List ℕ) (i : ℕ) (lt : i < length bytes) where
  pub quoted_closed : (not escaped && get_or bytes i 0 == 34) ≡ true → quoted_end escaped (drop i bytes) ≡ 1
  quoted_closed closes = rw (drop-cons bytes i 0, closes) refl

  pub quoted_more : (not escaped && get_or bytes i 0 == 34) ≡ false → quoted_end escaped (drop i bytes) ≡ quoted_end (not escaped && get_or bytes i 0 == 92) (drop (i + 1) bytes) + 1
  quoted_more none =
      let next : suc i ≡ i + 1 = omega arith in
      rw (drop-cons bytes i 0, none) (ap (λ n. quoted_end (not escaped && get_or bytes i 0 == 92) (drop n bytes) + 1) next)

-- the value in front, by its first byte
pub value_quoted : (bytes rest : List ℕ) → bytes ≡ 34 ∷ rest → value_end bytes ≡ 1 + quoted_end false rest
value_quoted bytes rest is = ap value_end is

pub value_plain : (bytes : List ℕ) → ((rest : List ℕ) → bytes ≡ 34 ∷ rest → ⊥) → value_end bytes ≡ position_or_len ends_number bytes
value_plain [] none = refl
value_plain (b ∷ bs) none = ap (λ q. if q then 1 + quoted_end false bs else position_or_len ends_number (b ∷ bs)) (ne_eqb b 34 (λ e. none bs (ap (λ c. c ∷ bs) e)))

behind_value : (more : List ℕ) → begins_behind_value more ≡ true → begins_behind_number more ≡ true
behind_value [] h = refl
behind_value (b ∷ more) h = elim (or_cases (b == 44) (b == 32) h) as (λ _. ends_number b ≡ true) [
  | inl comma ↦ ap ends_number (eqb-true b 44 comma)
  | inr blank ↦ ap ends_number (eqb-true b 32 blank)
]

pub value_length : (text more : List ℕ) → IsValueText text → begins_behind_value more ≡ true → value_end (text ++ more) ≡ length text
value_length [] more h k = absurd (false≢true h)
value_length (b ∷ bs) more h k = by (b == 34) h
  where
    by : (quote : Bool) → (if quote then closes_quote false bs else list_all (λ c. not (ends_number c)) (b ∷ bs)) ≡ true
        → (if quote then 1 + quoted_end false (bs ++ more) else position_or_len ends_number (b ∷ (bs ++ more))) ≡ length (b ∷ bs)
    by true h = let rest = quoted_length false bs more h in omega (arith, rest)
    by false h = first_behind (b ∷ bs) more h (behind_value more k)

-- two values in front of the same text
pub same_value : (t u a b : List ℕ) → IsValueText t → IsValueText u → begins_behind_value a ≡ true → begins_behind_value b ≡ true → t ++ a ≡ u ++ b → (t ≡ u) × (a ≡ b)
same_value t u a b p q c d e = same_front t u a b (sym (value_length t a p c) ∙ ap value_end e ∙ value_length u b q d) e

-- ---- strings and numbers
pub string_value : (t : List ℕ) → IsTrue (is_text t) → IsValueText t
unfolding is_text is_quoted
string_value t h = elim (or_cases (bytes_eq t (codes "null")) (is_quoted t) h) as (λ _. is_value_text t ≡ true) [
  | inl e ↦ ap is_value_text ((bytes_eq-Decides t (codes "null")).0 e)
  | inr q ↦ quoted t q
]
  where
    quoted : (t : List ℕ) → is_quoted t ≡ true → is_value_text t ≡ true
    quoted [] q = absurd (false≢true q)
    quoted (b ∷ bs) q =
        let both = and_parts (b == 34) (closes_quote false bs) q in
        ap (λ x. if x then closes_quote false bs else list_all (λ c. not (ends_number c)) (b ∷ bs)) both.0 ∙ both.1

digits_value_text : (ds : List ℕ) → AllDigits 10 ds → 0 < length ds → HasNone ds → IsValueText ds
digits_value_text [] all some none = absurd (omega (arith, some))
digits_value_text (d ∷ ds) all some none =
    let range = digit_from_value d all.0 in
    let other : (d == 34) ≡ false = ne_eqb d 34 (λ e. absurd (omega (arith, range))) in
    ap (λ x. if x then closes_quote false ds else list_all (λ c. not (ends_number c)) (d ∷ ds)) other ∙ none

pub number_value : (z : ℤ) → unsigned_abs z < 2 ^ 127 → IsValueText (signed_decimal z)
number_value (pos n) small =
    let k = decimal_is_IsNumeral_wide n (omega arith) in
    digits_value_text (decimal n) k.0.1 k.0.0 (number_plain (pos n) small)
number_value (negsuc n) small = number_plain (negsuc n) small

-- ---- lists of them
abbrev pub joined : List (List ℕ) → List ℕ
joined ts = join_by (λ t. t) (codes ", ") ts

-- what stands behind the first of some values
pub rest_behind : List (List ℕ) → List ℕ
rest_behind ts = flat_map (λ t. codes ", " ++ t) ts ++ codes " }"

pub begins_rest : (ts : List (List ℕ)) → begins_behind_value (rest_behind ts) ≡ true
unfolding rest_behind
begins_rest [] = refl
begins_rest (t ∷ ts) = refl

-- one value and the rest
pub joined_cons : (t : List ℕ) (ts : List (List ℕ)) → joined (t ∷ ts) ++ codes " }" ≡ t ++ rest_behind ts
unfolding rest_behind
joined_cons t ts = append_assoc t (flat_map (λ u. codes ", " ++ u) ts) (codes " }")

pub rest_cons : (t : List ℕ) (ts : List (List ℕ)) → rest_behind (t ∷ ts) ≡ codes ", " ++ (t ++ rest_behind ts)
unfolding rest_behind
rest_cons t ts =
    append_assoc (codes ", " ++ t) (flat_map (λ u. codes ", " ++ u) ts) (codes " }")
    ∙ append_assoc (codes ", ") t (flat_map (λ u. codes ", " ++ u) ts ++ codes " }")

pub rest_none : rest_behind [] ≡ codes " }"
unfolding rest_behind
rest_none = refl

rest_apart : (t : List ℕ) (ts : List (List ℕ)) → rest_behind [] ≡ rest_behind (t ∷ ts) → ⊥
unfolding rest_behind
rest_apart t ts e = false≢true (ap (λ l. get_or l 0 0 == 44) e)

same_rest : (ts us : List (List ℕ)) → All IsValueText ts → All IsValueText us → rest_behind ts ≡ rest_behind us → ts ≡ us
same_rest [] [] p q e = refl
same_rest [] (u ∷ us) p q e = absurd (rest_apart u us e)
same_rest (t ∷ ts) [] p q e = absurd (rest_apart t ts (sym e))
same_rest (t ∷ ts) (u ∷ us) p q e =
    let inner : t ++ rest_behind ts ≡ u ++ rest_behind us = append_cancel_left (codes ", ") (t ++ rest_behind ts) (u ++ rest_behind us) (sym (rest_cons t ts) ∙ e ∙ rest_cons u us) in
    let both = same_value t u (rest_behind ts) (rest_behind us) (All-head IsValueText t ts p) (All-head IsValueText u us q) (begins_rest ts) (begins_rest us) inner in
    let rest = same_rest ts us (All-tail IsValueText t ts p) (All-tail IsValueText u us q) both.1 in
    λ i. both.0 i ∷ rest i

-- several values in braces
pub many_values : (t u : List ℕ) (ts : List (List ℕ)) → values_text (λ t. t) (t ∷ u ∷ ts) ≡ codes " one of { " ++ (t ++ rest_behind (u ∷ ts))
many_values t u ts = append_assoc (codes " one of { ") (joined (t ∷ u ∷ ts)) (codes " }") ∙ ap (λ l. codes " one of { " ++ l) (joined_cons t (u ∷ ts))

pub same_values : (ts us : List (List ℕ)) → All IsValueText ts → All IsValueText us → 0 < length ts → 0 < length us → values_text (λ t. t) ts ≡ values_text (λ t. t) us → ts ≡ us
same_values [] us p q x y e = absurd (omega (arith, x))
same_values ts [] p q x y e = absurd (omega (arith, y))
same_values (t ∷ []) (u ∷ []) p q x y e = ap (λ v. v ∷ []) (append_cancel_left (codes " == ") t u e)
same_values (t ∷ []) (u ∷ v ∷ us) p q x y e = absurd (false≢true (ap (λ l. get_or l 1 0 == 111) e))
same_values (t ∷ v ∷ ts) (u ∷ []) p q x y e = absurd (false≢true (ap (λ l. get_or l 1 0 == 61) e))
same_values (t ∷ v ∷ ts) (u ∷ w ∷ us) p q x y e =
    let inner = append_cancel_left (codes " one of { ") (t ++ rest_behind (v ∷ ts)) (u ++ rest_behind (w ∷ us)) (sym (many_values t v ts) ∙ e ∙ many_values u w us) in
    let both = same_value t u (rest_behind (v ∷ ts)) (rest_behind (w ∷ us)) (All-head IsValueText t (v ∷ ts) p) (All-head IsValueText u (w ∷ us) q) (begins_rest (v ∷ ts)) (begins_rest (w ∷ us)) inner in
    let rest = same_rest (v ∷ ts) (w ∷ us) (All-tail IsValueText t (v ∷ ts) p) (All-tail IsValueText u (w ∷ us) q) both.1 in
    λ i. both.0 i ∷ rest i

-- ---- numbers as texts
pub number_texts : (ks : List ℤ) → values_text signed_decimal ks ≡ values_text (λ t. t) (map signed_decimal ks)
number_texts [] = refl
number_texts (k ∷ []) = refl
number_texts (k ∷ l ∷ ks) = ap (λ r. codes " one of { " ++ (signed_decimal k ++ ((codes ", " ++ signed_decimal l) ++ r)) ++ codes " }") (rests ks)
  where
    rests : (ks : List ℤ) → flat_map (λ x. codes ", " ++ signed_decimal x) ks ≡ flat_map (λ t. codes ", " ++ t) (map signed_decimal ks)
    rests [] = refl
    rests (x ∷ xs) = ap (λ r. (codes ", " ++ signed_decimal x) ++ r) (rests xs)
