-- What a premise that fits says of each tuple of its own variables.
use Rattle.std.specs.Prelude.{◌≡◌, ◌≤ℤ◌, ◌&&◌, ℤ, fold, flat_map, int_le, nat_le, map, Bool, true, false, List, [], ◌∷◌, ◌++◌, length, refl, if◌then◌else◌}
use Rattle.std.specs.declared.cmp.Ordering.TheVariants.{Less, Equal, Greater}
use Rattle.std.specs.Int.{int_max, int_min}
use Rattle.std.specs.FinMap.{int_cmp-IsAntisymmetric}
use Rattle.std.specs.List.{list_all, AllByRecursion}
use Rattle.std.specs.Ordering.{int_cmp}
use Rattle.std.proofs.Common.{arith, ap, inl, inr, sym, ◌∙◌, ◌⊎◌}
use Rattle.std.proofs.lemmas.Bool.{and_parts, false≢true}
use Rattle.std.proofs.lemmas.Int.{fold-int_max_bounds, fold-int_min_bounds, ints as int_rules}
use Rattle.std.proofs.lemmas.List.Elements.{recursion_from_All}
use Rattle.dk_base.specs.declared.values.Value.{Value}
use Rattle.dk_forms.specs.Known.Distinct.{by_order, distinct, put}
use Rattle.dk_forms.specs.Known.{broken, fact}
use Rattle.dk_forms.specs.Greatest.{greatest_of}
use Rattle.dk_forms.specs.Ints.{ints_of, ints_state}
use Rattle.dk_forms.specs.Least.{least_of}
use Rattle.dk_forms.specs.Plain.{plain_of}
use Rattle.dk_forms.specs.declared.states.State.TheVariants as state
use Rattle.dk_meanings.proofs.RowLaws.{is_row_by, plain_rows}
use Rattle.dk_meanings.specs.Laws.{is_row}
use Rattle.dk_meanings.specs.Meaning.{Meaning, relation, least, greatest, ints, truth, code, texts, modulus, line, plane, offset, state_by}
use Rattle.dk_meanings.specs.Meanings.{meaning_of, meanings, relation_of, state_of}
use Rattle.dk_template.specs.Fitting.{fits}
use Rattle.dk_template.specs.Premises.{is_greatest_to, is_least_from, is_only, one_of_int, row_of, suffices}
use Rattle.dk_template.specs.Templates.{form_of, is_plain}
use Rattle.dk_template.specs.declared.answers.Premise.{Premise}
use Rattle.dk_template.specs.declared.answers.Premise.TheVariants.{Holds, LeastAtLeast, GreatestAtMost, Only}
use Rattle.dk_template.specs.declared.templates.StateForm.{StateForm}
use Rattle.dk_template.specs.declared.templates.StateForm.TheVariants as form

-- the numbers that a tuple gives, of all of which the state tells the least, the greatest or the distinct ones
abbrev pub numbers_by : Meaning → List Value → List ℤ
numbers_by (least values) tuple = values tuple
numbers_by (greatest values) tuple = values tuple
numbers_by (ints values) tuple = values tuple
numbers_by _ tuple = []

-- what a premise says of a tuple of its own variables
abbrev pub Says : Premise → List Value → Type 0
Says (Holds row roles) tuple = relation_of row tuple ≡ true
Says (LeastAtLeast row role k) tuple = AllByRecursion (λ v. int_le k v ≡ true) (numbers_by (meaning_of row) tuple)
Says (GreatestAtMost row role k) tuple = AllByRecursion (λ v. int_le v k ≡ true) (numbers_by (meaning_of row) tuple)
Says (Only role k) tuple = AllByRecursion (λ v. v ≡ k) (numbers_by (meaning_of one_of_int) tuple)

-- ---- a relation
pub plain_form : (f : StateForm) → is_plain f ≡ true → f ≡ form.Plain
plain_form form.Plain h = refl
plain_form form.Least h = absurd (false≢true h)
plain_form form.Greatest h = absurd (false≢true h)
plain_form form.Ints h = absurd (false≢true h)
plain_form form.Truth h = absurd (false≢true h)
plain_form form.Code h = absurd (false≢true h)
plain_form form.Texts h = absurd (false≢true h)
plain_form form.Modulus h = absurd (false≢true h)
plain_form form.Line h = absurd (false≢true h)
plain_form form.Plane h = absurd (false≢true h)
plain_form form.Offset h = absurd (false≢true h)

module _ {T : Type 0} (R : T → Bool) where
  each_relates : (ts : List T) → list_all (λ h. h) (map R ts) ≡ true → AllByRecursion (λ t. R t ≡ true) ts
  each_relates [] h = tt
  each_relates (t ∷ ts) h = let hs = and_parts (R t) (list_all (λ b. b) (map R ts)) h in (hs.0, each_relates ts hs.1)

  plain_says : (ts : List T) → fits (plain_of (map R ts)) ≡ true → AllByRecursion (λ t. R t ≡ true) ts
  plain_says [] h = tt
  plain_says (t ∷ ts) h =
      each_relates (t ∷ ts) (elim (list_all (λ b. b) (map R (t ∷ ts))) as (λ b. fits (if b then state.Holds else state.Broken) ≡ true → b ≡ true) [
        | true ↦ λ f. refl
        | false ↦ λ f. absurd (false≢true f)
      ] h)

-- ---- the least and the greatest
least_says : (k : ℤ) (xs : List ℤ) → is_least_from k (least_of xs) ≡ true → AllByRecursion (λ v. int_le k v ≡ true) xs
least_says k [] h = tt
least_says k (x ∷ xs) h =
    let r = fold int_min x xs in
    let bounds = fold-int_min_bounds x xs r refl in
    (above r x h bounds.0, each_above r xs h (recursion_from_All (λ y. r ≤ℤ y) xs bounds.1))
  where
    above : (r y : ℤ) → int_le k r ≡ true → r ≤ℤ y → int_le k y ≡ true
    above r y h l = grind (arith, int_rules)

    each_above : (r : ℤ) (ys : List ℤ) → int_le k r ≡ true → AllByRecursion (λ y. r ≤ℤ y) ys → AllByRecursion (λ v. int_le k v ≡ true) ys
    each_above r [] h l = tt
    each_above r (y ∷ ys) h l = (above r y h l.0, each_above r ys h l.1)

greatest_says : (k : ℤ) (xs : List ℤ) → is_greatest_to k (greatest_of xs) ≡ true → AllByRecursion (λ v. int_le v k ≡ true) xs
greatest_says k [] h = tt
greatest_says k (x ∷ xs) h =
    let r = fold int_max x xs in
    let bounds = fold-int_max_bounds x xs r refl in
    (below r x h bounds.0, each_below r xs h (recursion_from_All (λ y. y ≤ℤ r) xs bounds.1))
  where
    below : (r y : ℤ) → int_le r k ≡ true → y ≤ℤ r → int_le y k ≡ true
    below r y h l = grind (arith, int_rules)

    each_below : (r : ℤ) (ys : List ℤ) → int_le r k ≡ true → AllByRecursion (λ y. y ≤ℤ r) ys → AllByRecursion (λ v. int_le v k ≡ true) ys
    each_below r [] h l = tt
    each_below r (y ∷ ys) h l = (below r y h l.0, each_below r ys h l.1)

-- ---- one distinct number
abbrev is_none : List ℤ → Bool
is_none [] = true
is_none (x ∷ xs) = false

put_some : (x : ℤ) (s : List ℤ) → is_none (put int_cmp x s) ≡ false
unfolding put
put_some x [] = refl
put_some x (y ∷ s) = elim (int_cmp x y) as (λ o. is_none (by_order o (x ∷ y ∷ s) (y ∷ s) (y ∷ put int_cmp x s)) ≡ false) [ Less ↦ refl | Equal ↦ refl | Greater ↦ refl ]

abbrev head_or : ℤ → List ℤ → ℤ
head_or d [] = d
head_or d (x ∷ xs) = x

abbrev rest : List ℤ → List ℤ
rest [] = []
rest (x ∷ xs) = xs

-- where x at its place among s is k alone, x is k, and s is empty or k alone
put_one : (x k : ℤ) (s : List ℤ) → put int_cmp x s ≡ k ∷ [] → (x ≡ k) × ((s ≡ []) ⊎ (s ≡ k ∷ []))
unfolding put
put_one x k [] e = (ap (head_or x) e, inl refl)
put_one x k (y ∷ s) e =
    elim (int_cmp x y) as (λ o. int_cmp x y ≡ o → by_order o (x ∷ y ∷ s) (y ∷ s) (y ∷ put int_cmp x s) ≡ k ∷ [] → (x ≡ k) × ((y ∷ s ≡ []) ⊎ (y ∷ s ≡ k ∷ []))) [
      | Less ↦ λ o f. absurd (false≢true (ap (λ l. is_none (rest l)) f))
      | Equal ↦ λ o f. (int_cmp-IsAntisymmetric x y o ∙ ap (head_or x) f, inr f)
      | Greater ↦ λ o f. absurd (false≢true (sym (put_some x s) ∙ ap (λ l. is_none (rest l)) f))
    ] refl e

distinct_one : (k : ℤ) (xs : List ℤ) → (distinct int_cmp xs ≡ []) ⊎ (distinct int_cmp xs ≡ k ∷ []) → AllByRecursion (λ v. v ≡ k) xs
distinct_one k [] h = tt
distinct_one k (x ∷ xs) (inl e) = absurd (false≢true (sym (put_some x (distinct int_cmp xs)) ∙ ap is_none e))
distinct_one k (x ∷ xs) (inr e) = let p = put_one x k (distinct int_cmp xs) e in (p.0, distinct_one k xs p.1)

only_list : (k : ℤ) (s : List ℤ) → is_only k (state.Ints s) ≡ true → s ≡ k ∷ []
only_list k [] h = absurd (false≢true h)
only_list k (x ∷ []) h = let e : x ≡ k = grind (arith, int_rules) in ap (λ z. z ∷ []) e
only_list k (x ∷ y ∷ s) h = absurd (false≢true h)

only_says : (k : ℤ) (xs : List ℤ) → is_only k (ints_of xs) ≡ true → AllByRecursion (λ v. v ≡ k) xs
only_says k [] h = tt
only_says k (x ∷ xs) h =
    let s = distinct int_cmp (x ∷ xs) in
    distinct_one k (x ∷ xs) (inr (elim (nat_le (length s) 3) as (λ b. is_only k (ints_state (if b then fact s else broken)) ≡ true → s ≡ k ∷ []) [
      | true ↦ λ f. only_list k s f
      | false ↦ λ f. absurd (false≢true f)
    ] h))

-- ---- the numbers of each tuple
module _ {T : Type 0} (P : ℤ → Type 0) (values : T → List ℤ) where
  split : (xs ys : List ℤ) → AllByRecursion P (xs ++ ys) → AllByRecursion P xs × AllByRecursion P ys
  split [] ys h = (tt, h)
  split (x ∷ xs) ys h = let hs = split xs ys h.1 in ((h.0, hs.0), hs.1)

  each_tuple : (ts : List T) → AllByRecursion P (flat_map values ts) → AllByRecursion (λ t. AllByRecursion P (values t)) ts
  each_tuple [] h = tt
  each_tuple (t ∷ ts) h = let hs = split (values t) (flat_map values ts) h in (hs.0, each_tuple ts hs.1)

-- ---- a premise
abbrev is_least : Meaning → Bool
is_least (least values) = true
is_least _ = false

abbrev is_greatest : Meaning → Bool
is_greatest (greatest values) = true
is_greatest _ = false

-- the premise's row has the meaning that the premise speaks of
abbrev pub can_say : Premise → Bool
can_say (Holds row roles) = is_row row && is_plain (form_of row)
can_say (LeastAtLeast row role k) = is_least (meaning_of row)
can_say (GreatestAtMost row role k) = is_greatest (meaning_of row)
can_say (Only role k) = true

least_meaning : (m : Meaning) (k : ℤ) (ts : List (List Value)) → is_least m ≡ true → is_least_from k (state_by m ts) ≡ true → AllByRecursion (λ t. AllByRecursion (λ v. int_le k v ≡ true) (numbers_by m t)) ts
least_meaning (least values) k ts e h = each_tuple (λ v. int_le k v ≡ true) values ts (least_says k (flat_map values ts) h)
least_meaning (relation r) k ts e h = absurd (false≢true e)
least_meaning (greatest values) k ts e h = absurd (false≢true e)
least_meaning (ints values) k ts e h = absurd (false≢true e)
least_meaning (truth values) k ts e h = absurd (false≢true e)
least_meaning (code values) k ts e h = absurd (false≢true e)
least_meaning (texts values) k ts e h = absurd (false≢true e)
least_meaning (modulus value) k ts e h = absurd (false≢true e)
least_meaning (line point) k ts e h = absurd (false≢true e)
least_meaning (plane point) k ts e h = absurd (false≢true e)
least_meaning (offset values) k ts e h = absurd (false≢true e)

greatest_meaning : (m : Meaning) (k : ℤ) (ts : List (List Value)) → is_greatest m ≡ true → is_greatest_to k (state_by m ts) ≡ true → AllByRecursion (λ t. AllByRecursion (λ v. int_le v k ≡ true) (numbers_by m t)) ts
greatest_meaning (greatest values) k ts e h = each_tuple (λ v. int_le v k ≡ true) values ts (greatest_says k (flat_map values ts) h)
greatest_meaning (relation r) k ts e h = absurd (false≢true e)
greatest_meaning (least values) k ts e h = absurd (false≢true e)
greatest_meaning (ints values) k ts e h = absurd (false≢true e)
greatest_meaning (truth values) k ts e h = absurd (false≢true e)
greatest_meaning (code values) k ts e h = absurd (false≢true e)
greatest_meaning (texts values) k ts e h = absurd (false≢true e)
greatest_meaning (modulus value) k ts e h = absurd (false≢true e)
greatest_meaning (line point) k ts e h = absurd (false≢true e)
greatest_meaning (plane point) k ts e h = absurd (false≢true e)
greatest_meaning (offset values) k ts e h = absurd (false≢true e)

-- where a premise fits, it says so of each tuple
pub premise_says : (p : Premise) (ts : List (List Value)) → can_say p ≡ true → suffices p (state_of (row_of p) ts) ≡ true → AllByRecursion (Says p) ts
unfolding state_of meanings
premise_says (Holds row roles) ts e h =
    let es = and_parts (is_row row) (is_plain (form_of row)) e in
    plain_says (relation_of row) ts (ap fits (sym (plain_rows row (is_row_by row es.0) (plain_form (form_of row) es.1) ts)) ∙ h)
premise_says (LeastAtLeast row role k) ts e h = least_meaning (meaning_of row) k ts e h
premise_says (GreatestAtMost row role k) ts e h = greatest_meaning (meaning_of row) k ts e h
premise_says (Only role k) ts e h = each_tuple (λ v. v ≡ k) (numbers_by (meaning_of one_of_int)) ts (only_says k (flat_map (numbers_by (meaning_of one_of_int)) ts) h)
