-- The same of the rules over sequences.
use Rattle.std.specs.Prelude.{◌≡◌, ◌||◌, ◌==◌, ◌++◌, ℕ, ℤ, pos, negsuc, int_le, nat_eq, Bool, true, false, List, [], ◌∷◌, drop, length, reverse, zip, refl}
use Rattle.std.specs.List.{list_all, list_any, AllByRecursion}
use Rattle.std.specs.Ordering.{int_eq}
use Rattle.std.specs.Str.{bytes_eq}
use Rattle.std.proofs.Common.{arith, ap, subst, sym, ◌∙◌}
use Rattle.std.proofs.lemmas.Bool.{and_from, and_parts, eq-eqb, eqb-true, false≢true}
use Rattle.std.proofs.lemmas.List.{reverse-append}
use Rattle.std.proofs.lemmas.List.Sorted.{IsPermutation-reverse, list_any-IsPermutation}
use Rattle.std.proofs.lemmas.Slice.Eq.{bytes_eq-Decides}
use Rattle.dk_meanings.specs.Relations.{all_relate, are_pairwise, are_sorted, is_member, is_nonzero, is_reverse, is_subset}
use Rattle.dk_suppress.proofs.NumberRules.{equal, from_one, same, to_minus_one}

-- ---- from each element, or each pair
all_from : {A : Type 0} (p q : A → Bool) → ((x : A) → p x ≡ true → q x ≡ true) → (xs : List A) → AllByRecursion (λ x. p x ≡ true) xs → list_all q xs ≡ true
all_from p q each [] h = refl
all_from p q each (x ∷ xs) h = and_from (q x) (list_all q xs) (each x h.0) (all_from p q each xs h.1)

all_weaker : {A : Type 0} (p q : A → Bool) → ((x : A) → p x ≡ true → q x ≡ true) → (xs : List A) → list_all p xs ≡ true → list_all q xs ≡ true
all_weaker p q each [] h = refl
all_weaker p q each (x ∷ xs) h = let hs = and_parts (p x) (list_all p xs) h in and_from (q x) (list_all q xs) (each x hs.0) (all_weaker p q each xs hs.1)

pub elements_from_one : (s : List ℤ) → AllByRecursion (λ v. int_le (pos 1) v ≡ true) s → list_all is_nonzero s ≡ true
elements_from_one s h = all_from (λ v. int_le (pos 1) v) is_nonzero from_one s h

pub elements_to_minus_one : (s : List ℤ) → AllByRecursion (λ v. int_le v (negsuc 0) ≡ true) s → list_all is_nonzero s ≡ true
elements_to_minus_one s h = all_from (λ v. int_le v (negsuc 0)) is_nonzero to_minus_one s h

-- a weaker relation
module _ (R S : ℤ → ℤ → Bool) (weaker : (x y : ℤ) → R x y ≡ true → S x y ≡ true) where
  pub sorted_weaker : (s : List ℤ) → are_sorted R s ≡ true → are_sorted S s ≡ true
  sorted_weaker s h = all_weaker (λ (p : ℤ × ℤ). R p.0 p.1) (λ p. S p.0 p.1) (λ p. weaker p.0 p.1) (zip s (drop 1 s)) h

  pub relate_weaker : (s : List ℤ) (x : ℤ) → all_relate R s x ≡ true → all_relate S s x ≡ true
  relate_weaker s x h = all_weaker (λ e. R e x) (λ e. S e x) (λ e. weaker e x) s h

  pub pairwise_weaker : (s t : List ℤ) → are_pairwise R s t ≡ true → are_pairwise S s t ≡ true
  pairwise_weaker s t h =
      let hs = and_parts (length s == length t) (list_all (λ (p : ℤ × ℤ). R p.0 p.1) (zip s t)) h in
      and_from (length s == length t) (list_all (λ (p : ℤ × ℤ). S p.0 p.1) (zip s t)) hs.0 (all_weaker (λ (p : ℤ × ℤ). R p.0 p.1) (λ p. S p.0 p.1) (λ p. weaker p.0 p.1) (zip s t) hs.1)

-- ---- equal sequences
module _ {A : Type 0} (same_by : A → A → Bool) (is : (x y : A) → same_by x y ≡ true → x ≡ y) (itself : (x : A) → same_by x x ≡ true) where
  equal_zipped : (s t : List A) → length s ≡ length t → list_all (λ (p : A × A). same_by p.0 p.1) (zip s t) ≡ true → s ≡ t
  equal_zipped [] [] n h = refl
  equal_zipped [] (y ∷ t) n h = absurd (omega (arith, n))
  equal_zipped (x ∷ s) [] n h = absurd (omega (arith, n))
  equal_zipped (x ∷ s) (y ∷ t) n h =
      let hs = and_parts (same_by x y) (list_all (λ (p : A × A). same_by p.0 p.1) (zip s t)) h in
      let tails : s ≡ t = equal_zipped s t (omega (arith, n)) hs.1 in
      ap (λ z. z ∷ s) (is x y hs.0) ∙ ap (λ l. y ∷ l) tails

  pub equal_pairwise : (s t : List A) → are_pairwise same_by s t ≡ true → s ≡ t
  equal_pairwise s t h =
      let hs = and_parts (length s == length t) (list_all (λ (p : A × A). same_by p.0 p.1) (zip s t)) h in
      equal_zipped s t (eqb-true (length s) (length t) hs.0) hs.1

  zipped_itself : (s : List A) → list_all (λ (p : A × A). same_by p.0 p.1) (zip s s) ≡ true
  zipped_itself [] = refl
  zipped_itself (x ∷ s) = and_from (same_by x x) (list_all (λ (p : A × A). same_by p.0 p.1) (zip s s)) (itself x) (zipped_itself s)

  pairwise_itself : (s : List A) → are_pairwise same_by s s ≡ true
  pairwise_itself s = and_from (length s == length s) (list_all (λ (p : A × A). same_by p.0 p.1) (zip s s)) (eq-eqb (length s) (length s) refl) (zipped_itself s)

  or_right : (a b : Bool) → b ≡ true → (a || b) ≡ true
  or_right true b h = refl
  or_right false b h = h

  or_left : (a b : Bool) → a ≡ true → (a || b) ≡ true
  or_left true b h = refl
  or_left false b h = absurd (false≢true h)

  subset_itself : (s : List A) → is_subset same_by s s ≡ true
  subset_itself [] = refl
  subset_itself (x ∷ s) =
      and_from (is_member same_by x (x ∷ s)) (list_all (λ y. is_member same_by y (x ∷ s)) s)
      (or_left (same_by x x) (list_any (λ e. same_by e x) s) (itself x))
      (all_weaker (λ y. is_member same_by y s) (λ y. is_member same_by y (x ∷ s)) (λ y h. or_right (same_by x y) (list_any (λ e. same_by e y) s) h) s (subset_itself s))

  pub subset_of_equal : (s t : List A) → are_pairwise same_by s t ≡ true → is_subset same_by s t ≡ true
  subset_of_equal s t h = subst (λ l. is_subset same_by s l ≡ true) (equal_pairwise s t h) (subset_itself s)

  pub subset_of_reverse : (s t : List A) → is_reverse same_by s t ≡ true → is_subset same_by s t ≡ true
  subset_of_reverse s t h =
      subst (λ l. is_subset same_by s l ≡ true) (equal_pairwise (reverse s) t h)
      (all_weaker (λ y. is_member same_by y s) (λ y. is_member same_by y (reverse s))
      (λ y m. sym (list_any-IsPermutation (λ e. same_by e y) s (reverse s) (IsPermutation-reverse s)) ∙ m) s (subset_itself s))

  -- ---- a sequence of equal elements read backwards
  all_same : (x : A) (s : List A) → are_sorted same_by (x ∷ s) ≡ true → AllByRecursion (λ y. y ≡ x) s
  all_same x [] h = tt
  all_same x (y ∷ s) h =
      let hs = and_parts (same_by x y) (are_sorted same_by (y ∷ s)) h in
      let e : y ≡ x = sym (is x y hs.0) in
      (e, all_same x s (subst (λ z. are_sorted same_by (z ∷ s) ≡ true) e hs.1))

  push_same : (x : A) (s : List A) → AllByRecursion (λ y. y ≡ x) s → s ++ x ∷ [] ≡ x ∷ s
  push_same x [] h = refl
  push_same x (y ∷ s) h = ap (λ l. y ∷ l) (push_same x s h.1) ∙ subst (λ z. z ∷ x ∷ s ≡ x ∷ z ∷ s) (sym h.0) refl

  reverse_same : (x : A) (s : List A) → AllByRecursion (λ y. y ≡ x) s → reverse s ≡ s
  reverse_same x [] h = refl
  reverse_same x (y ∷ s) h =
      reverse-append (y ∷ []) s ∙ ap (λ l. l ++ y ∷ []) (reverse_same x s h.1) ∙ subst (λ z. s ++ z ∷ [] ≡ z ∷ s) (sym h.0) (push_same x s h.1)

  reverse_sorted : (s : List A) → are_sorted same_by s ≡ true → reverse s ≡ s
  reverse_sorted [] h = refl
  reverse_sorted (x ∷ s) h = reverse_same x (x ∷ s) (refl, all_same x s h)

  pub reverse_of_equal : (s t : List A) → are_pairwise same_by s t ≡ true → are_sorted same_by s ≡ true → is_reverse same_by s t ≡ true
  reverse_of_equal s t h k = subst (λ l. are_pairwise same_by l t ≡ true) (sym (reverse_sorted s k)) h

-- ---- of numbers, hash codes and strings
number_itself : (x : ℤ) → int_eq x x ≡ true
number_itself x = same x x refl

code_itself : (x : ℕ) → nat_eq x x ≡ true
code_itself x = eq-eqb x x refl

pub numbers_reverse : (s t : List ℤ) → are_pairwise int_eq s t ≡ true → are_sorted int_eq s ≡ true → is_reverse int_eq s t ≡ true
numbers_reverse = reverse_of_equal int_eq equal number_itself

pub numbers_subset : (s t : List ℤ) → are_pairwise int_eq s t ≡ true → is_subset int_eq s t ≡ true
numbers_subset = subset_of_equal int_eq equal number_itself

pub reversed_subset : (s t : List ℤ) → is_reverse int_eq s t ≡ true → is_subset int_eq s t ≡ true
reversed_subset = subset_of_reverse int_eq equal number_itself

pub codes_subset : (s t : List ℕ) → are_pairwise nat_eq s t ≡ true → is_subset nat_eq s t ≡ true
codes_subset = subset_of_equal nat_eq eqb-true code_itself

pub texts_subset : (s t : List (List ℕ)) → are_pairwise bytes_eq s t ≡ true → is_subset bytes_eq s t ≡ true
texts_subset = subset_of_equal bytes_eq (λ x y h. (bytes_eq-Decides x y).0 h) (λ x. (bytes_eq-Decides x x).1 refl)
