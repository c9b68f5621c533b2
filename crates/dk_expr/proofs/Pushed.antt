-- Values in front of bytes, taken one by one.
use Rattle.std.specs.Prelude.{◌≡◌, ◌==◌, ◌-◌, ◌&&◌, ◌∷◌, ◌++◌, ◌<◌, ◌≤◌, [], ℕ, ℤ, pos, true, All, Bool, IsTrue, List, OnOk, Result, codes, drop, length, map, refl, take}
use Rattle.std.specs.Fmt.{signed_decimal}
use Rattle.std.specs.List.{list_all}
use Rattle.std.proofs.Common.{◌+◌, ◌∙◌, ap, append_assoc, arith, get_or, set, sym}
use Rattle.std.proofs.lemmas.Bool.{false≢true}
use Rattle.std.proofs.lemmas.List.Folds.{list_all-append}
use Rattle.std.proofs.lemmas.List.Sums.{AllPass-from_list_all}
use Rattle.std.proofs.lemmas.List.{append_cancel_left, drop_at, get_or-map, length-map, take_at, take_more, take_more_set}
use Rattle.std.proofs.lemmas.List.Elements.{All-head, All-tail}
use Rattle.std.proofs.lemmas.Result.{on_ok_weaker}
use Rattle.dk_base.specs.Numbers.{fits_i64}
use Rattle.dk_expr.specs.Valued.{IsValueText, value_end}
use Rattle.dk_expr.proofs.ValueTexts.{begins_rest, joined, joined_cons, rest_behind, rest_cons, rest_none, value_length}

-- the bytes are these values
abbrev pub Joins : List ℕ → List (List ℕ) → Type 0
Joins bytes texts = bytes ≡ joined texts ++ codes " }"

-- at most so many values are put behind those that were there
abbrev pub Puts : ℕ → List ℕ → List (List ℕ) → List (List ℕ) → Type 0
Puts most bytes old new = (texts : List (List ℕ)) → All IsValueText texts → 1 ≤ length texts → length texts ≤ most → Joins bytes texts → new ≡ old ++ texts

module _ (bytes value behind : List ℕ) (len : ℕ) (long : len ≡ value_end bytes) (front : value ≡ take len bytes) (back : behind ≡ drop len bytes) where
  first_value : (t : List ℕ) (ts : List (List ℕ)) → IsValueText t → Joins bytes (t ∷ ts) → (value ≡ t) × (behind ≡ rest_behind ts)
  first_value t ts own are =
      let is : bytes ≡ t ++ rest_behind ts = are ∙ joined_cons t ts in
      let here : len ≡ length t = long ∙ ap value_end is ∙ value_length t (rest_behind ts) own (begins_rest ts) in
      (front ∙ (λ i. take (here i) (is i)) ∙ take_at t (rest_behind ts) (length t) refl, back ∙ (λ i. drop (here i) (is i)) ∙ drop_at t (rest_behind ts) (length t) refl)

  module _ (old mid : List (List ℕ)) (one : mid ≡ old ++ value ∷ []) where
    -- where none stands behind the first
    pub last_put : (most : ℕ) → ((rest : List ℕ) → behind ≡ codes ", " ++ rest → ⊥) → Puts most bytes old mid
    last_put most none [] are some few is = absurd (omega (arith, some))
    last_put most none (t ∷ []) are some few is = one ∙ ap (λ v. old ++ v ∷ []) (first_value t [] (All-head IsValueText t [] are) is).0
    last_put most none (t ∷ u ∷ us) are some few is = absurd (none (u ++ rest_behind us) ((first_value t (u ∷ us) (All-head IsValueText t (u ∷ us) are) is).1 ∙ rest_cons u us))

    -- and where others do
    more_put : (most : ℕ) (rest : List ℕ) (new : List (List ℕ)) → behind ≡ codes ", " ++ rest → Puts (most - 1) rest mid new → Puts most bytes old new
    more_put most rest new more others [] are some few is = absurd (omega (arith, some))
    more_put most rest new more others (t ∷ []) are some few is =
        absurd (false≢true (ap (λ l. get_or l 0 0 == 44) (sym rest_none ∙ sym (first_value t [] (All-head IsValueText t [] are) is).1 ∙ more)))
    more_put most rest new more others (t ∷ u ∷ us) are some few is =
        let both = first_value t (u ∷ us) (All-head IsValueText t (u ∷ us) are) is in
        let follow : rest ≡ u ++ rest_behind us = append_cancel_left (codes ", ") rest (u ++ rest_behind us) (sym more ∙ both.1 ∙ rest_cons u us) in
        others (u ∷ us) (All-tail IsValueText t (u ∷ us) are) (omega arith) (omega (arith, few)) (follow ∙ sym (joined_cons u us))
        ∙ ap (λ l. l ++ u ∷ us) (one ∙ ap (λ v. old ++ v ∷ []) both.0)
        ∙ append_assoc old (t ∷ []) (u ∷ us)

    pub rest_put : {T E : Type 0} (r : Result T E) (most : ℕ) (rest : List ℕ) (new : List (List ℕ)) → behind ≡ codes ", " ++ rest
        → OnOk r (Puts (most - 1) rest mid new) → OnOk r (Puts most bytes old new)
    rest_put r most rest new more others = on_ok_weaker r (λ puts. more_put most rest new more puts) others

-- ---- whole numbers
-- the number that one of the texts writes
pub written_at : (texts : List (List ℕ)) (ks : List ℤ) (i : ℕ) (e t : List ℕ) → texts ≡ map signed_decimal ks → IsTrue (list_all fits_i64 ks) → i < length texts → e ≡ get_or texts i e → t ≡ e
    → (i < length ks) × IsTrue (fits_i64 (get_or ks i (pos 0))) × (t ≡ signed_decimal (get_or ks i (pos 0)))
written_at texts ks i e t are fit lt is own =
    let within : i < length ks = omega (arith, lt, ap length are, length-map ks signed_decimal) in
    (within, AllPass-from_list_all fits_i64 ks fit i (pos 0) within, own ∙ is ∙ ap (λ l. get_or l i e) are ∙ get_or-map signed_decimal ks i (pos 0) e within)

-- one number more
pub more_written : (ints ks : List ℤ) (i : ℕ) (x : ℤ) → i < length ints → i < length ks → x ≡ get_or ks i (pos 0) → take i ints ≡ take i ks → take (i + 1) (set ints i x) ≡ take (i + 1) ks
more_written ints ks i x within there is so_far = take_more_set ints i x within ∙ (λ j. so_far j ++ is j ∷ []) ∙ sym (take_more ks i (pos 0) there)

pub more_fit : (ints : List ℤ) (i : ℕ) (x y : ℤ) → i < length ints → x ≡ y → IsTrue (fits_i64 y) → IsTrue (list_all fits_i64 (take i ints)) → IsTrue (list_all fits_i64 (take (i + 1) (set ints i x)))
more_fit ints i x y within is fits so_far =
    ap (list_all fits_i64) (take_more_set ints i x within) ∙ list_all-append fits_i64 (take i ints) (x ∷ []) ∙ and_true so_far (ap (λ z. fits_i64 z && true) is ∙ ap (λ b. b && true) fits)
  where
    and_true : {a b : Bool} → a ≡ true → b ≡ true → (a && b) ≡ true
    and_true p q = λ j. p j && q j
