-- The laws of few distinct values.
use Rattle.std.specs.Prelude.{[], ◌≡◌, ℕ, ◌<◌, ◌≤◌, true, List, ◌∷◌, length, refl}
use Rattle.std.specs.declared.cmp.Ordering.{Ordering}
use Rattle.std.specs.declared.cmp.Ordering.TheVariants.{Less, Equal, Greater}
use Rattle.std.specs.Ordering.{ordering_reverse}
use Rattle.std.specs.Cmp.{IsTotalOrder}
use Rattle.std.specs.FinMap.{IsAntisymmetric}
use Rattle.std.proofs.lemmas.Cmp.{tied_itself}
use Rattle.std.proofs.Common.{sym, ap, ◌∙◌, subst, arith, leb, inl, inr}
use Rattle.std.proofs.lemmas.Bool.{cases_Bool, leb-true, leb-false, lt-leb, cond-true, cond-false}
use Rattle.dk_forms.specs.Known.{IfFact, both, broken, fact, nothing}
use Rattle.dk_forms.specs.Known.Distinct.{IsFew, at_most, by_order, distinct, few_meet, few_of, put, put_all}
use Rattle.dk_forms.proofs.Knowns.{MeetLaws}

module _ {K : Type 0} {R : K → K → Ordering} (o : IsTotalOrder R) (same : IsAntisymmetric R) where
  pub put-nil : (x : K) → put R x [] ≡ x ∷ []
  unfolding put
  put-nil x = refl

  pub put-less : (x y : K) (ys : List K) → R x y ≡ Less → put R x (y ∷ ys) ≡ x ∷ y ∷ ys
  unfolding put
  put-less x y ys e = ap (λ r. by_order r (x ∷ y ∷ ys) (y ∷ ys) (y ∷ put R x ys)) e

  pub put-equal : (x y : K) (ys : List K) → R x y ≡ Equal → put R x (y ∷ ys) ≡ y ∷ ys
  unfolding put
  put-equal x y ys e = ap (λ r. by_order r (x ∷ y ∷ ys) (y ∷ ys) (y ∷ put R x ys)) e

  pub put-greater : (x y : K) (ys : List K) → R x y ≡ Greater → put R x (y ∷ ys) ≡ y ∷ put R x ys
  unfolding put
  put-greater x y ys e = ap (λ r. by_order r (x ∷ y ∷ ys) (y ∷ ys) (y ∷ put R x ys)) e

  turned : (x y : K) (r : Ordering) → R x y ≡ r → R y x ≡ ordering_reverse r
  turned x y r e = o.antisymm y x ∙ ap ordering_reverse e

  itself : (x : K) → R x x ≡ Equal
  itself x = tied_itself o x

  pub put_twice : (x : K) (s : List K) → put R x (put R x s) ≡ put R x s
  put_twice x [] = ap (put R x) (put-nil x) ∙ put-equal x x [] (itself x) ∙ sym (put-nil x)
  put_twice x (z ∷ zs) =
      elim (R x z) as (λ r. R x z ≡ r → put R x (put R x (z ∷ zs)) ≡ put R x (z ∷ zs)) [
        | Less ↦ λ e. ap (put R x) (put-less x z zs e) ∙ put-equal x x (z ∷ zs) (itself x) ∙ sym (put-less x z zs e)
        | Equal ↦ λ e. ap (put R x) (put-equal x z zs e)
        | Greater ↦ λ e. ap (put R x) (put-greater x z zs e) ∙ put-greater x z (put R x zs) e ∙ ap (λ t. z ∷ t) (put_twice x zs) ∙ sym (put-greater x z zs e)
      ] refl

  -- the smaller first or last
  put_apart : (x y : K) (zs : List K) → R x y ≡ Less → put R x (put R y zs) ≡ put R y (put R x zs)
  put_apart x y [] lt =
      ap (put R x) (put-nil y) ∙ put-less x y [] lt
      ∙ sym (ap (put R y) (put-nil x) ∙ put-greater y x [] (turned x y Less lt) ∙ ap (λ t. x ∷ t) (put-nil y))
  put_apart x y (z ∷ zs) lt =
      let gt : R y x ≡ Greater = turned x y Less lt in
      elim (R x z) as (λ r. R x z ≡ r → put R x (put R y (z ∷ zs)) ≡ put R y (put R x (z ∷ zs))) [
        | Less ↦ λ xz.
            let right : put R y (put R x (z ∷ zs)) ≡ x ∷ put R y (z ∷ zs) = ap (put R y) (put-less x z zs xz) ∙ put-greater y x (z ∷ zs) gt in
            elim (R y z) as (λ r. R y z ≡ r → put R x (put R y (z ∷ zs)) ≡ put R y (put R x (z ∷ zs))) [
              | Less ↦ λ yz. ap (put R x) (put-less y z zs yz) ∙ put-less x y (z ∷ zs) lt ∙ ap (λ t. x ∷ t) (sym (put-less y z zs yz)) ∙ sym right
              | Equal ↦ λ yz. ap (put R x) (put-equal y z zs yz) ∙ put-less x z zs xz ∙ ap (λ t. x ∷ t) (sym (put-equal y z zs yz)) ∙ sym right
              | Greater ↦ λ yz. ap (put R x) (put-greater y z zs yz) ∙ put-less x z (put R y zs) xz ∙ ap (λ t. x ∷ t) (sym (put-greater y z zs yz)) ∙ sym right
            ] refl
        | Equal ↦ λ xz.
            let zy : R y z ≡ Greater = ap (R y) (sym (same x z xz)) ∙ gt in
            ap (put R x) (put-greater y z zs zy) ∙ put-equal x z (put R y zs) xz ∙ sym (ap (put R y) (put-equal x z zs xz) ∙ put-greater y z zs zy)
        | Greater ↦ λ xz.
            let zy : R y z ≡ Greater = turned z y Less (o.trans z x y (turned x z Greater xz) lt) in
            ap (put R x) (put-greater y z zs zy) ∙ put-greater x z (put R y zs) xz ∙ ap (λ t. z ∷ t) (put_apart x y zs lt)
            ∙ sym (ap (put R y) (put-greater x z zs xz) ∙ put-greater y z (put R x zs) zy)
      ] refl

  pub put_swap : (x y : K) (zs : List K) → put R x (put R y zs) ≡ put R y (put R x zs)
  put_swap x y zs =
      elim (R x y) as (λ r. R x y ≡ r → put R x (put R y zs) ≡ put R y (put R x zs)) [
        | Less ↦ λ e. put_apart x y zs e
        | Equal ↦ λ e. let is : x ≡ y = same x y e in ap (λ w. put R w (put R y zs)) is ∙ ap (λ w. put R y (put R w zs)) (sym is)
        | Greater ↦ λ e. sym (put_apart y x zs (turned x y Greater e))
      ] refl

  pub all_put : (xs : List K) (y : K) (s : List K) → put_all R xs (put R y s) ≡ put R y (put_all R xs s)
  all_put [] y s = refl
  all_put (x ∷ xs) y s = ap (put R x) (all_put xs y s) ∙ put_swap x y (put_all R xs s)

  put_into_all : (x : K) (t s : List K) → put_all R (put R x t) s ≡ put R x (put_all R t s)
  put_into_all x [] s = ap (λ u. put_all R u s) (put-nil x)
  put_into_all x (y ∷ t) s =
      elim (R x y) as (λ r. R x y ≡ r → put_all R (put R x (y ∷ t)) s ≡ put R x (put R y (put_all R t s))) [
        | Less ↦ λ e. ap (λ u. put_all R u s) (put-less x y t e)
        | Equal ↦ λ e. ap (λ u. put_all R u s) (put-equal x y t e) ∙ sym (ap (λ w. put R w (put R y (put_all R t s))) (same x y e) ∙ put_twice y (put_all R t s))
        | Greater ↦ λ e. ap (λ u. put_all R u s) (put-greater x y t e) ∙ ap (put R y) (put_into_all x t s) ∙ put_swap y x (put_all R t s)
      ] refl

  -- two lists one after another, and in the other order
  all_assoc : (a b c : List K) → put_all R (put_all R a b) c ≡ put_all R a (put_all R b c)
  all_assoc [] b c = refl
  all_assoc (x ∷ a) b c = put_into_all x (put_all R a b) c ∙ ap (put R x) (all_assoc a b c)

  all_swap : (a b : List K) → put_all R a (distinct R b) ≡ put_all R b (distinct R a)
  all_swap a [] = refl
  all_swap a (y ∷ b) = all_put a y (distinct R b) ∙ ap (put R y) (all_swap a b)

  all_twice : (a s : List K) → put_all R a (put_all R a s) ≡ put_all R a s
  all_twice [] s = refl
  all_twice (x ∷ a) s = ap (put R x) (all_put a x (put_all R a s)) ∙ put_twice x _ ∙ ap (put R x) (all_twice a s)

  length-put : (x : K) (s : List K) → (length s ≤ length (put R x s)) × (0 < length (put R x s))
  length-put x [] = let e : length (put R x []) ≡ 1 = ap length (put-nil x) in (omega arith, omega arith)
  length-put x (y ∷ s) =
      elim (R x y) as (λ r. R x y ≡ r → (length (y ∷ s) ≤ length (put R x (y ∷ s))) × (0 < length (put R x (y ∷ s)))) [
        | Less ↦ λ e. let l : length (put R x (y ∷ s)) ≡ length (x ∷ y ∷ s) = ap length (put-less x y s e) in (omega arith, omega arith)
        | Equal ↦ λ e. let l : length (put R x (y ∷ s)) ≡ length (y ∷ s) = ap length (put-equal x y s e) in (omega arith, omega arith)
        | Greater ↦ λ e. let l : length (put R x (y ∷ s)) ≡ length (y ∷ put R x s) = ap length (put-greater x y s e) in let i = length-put x s in (omega arith, omega arith)
      ] refl

  pub length-all_right : (a b : List K) → length b ≤ length (put_all R a b)
  length-all_right [] b = omega arith
  length-all_right (x ∷ a) b = let i = length-all_right a b in let p = length-put x (put_all R a b) in omega arith

  module _ (n : ℕ) where
    length-all_left : (a b : List K) → distinct R a ≡ a → distinct R b ≡ b → length a ≤ length (put_all R a b)
    length-all_left a b p q =
        let e : put_all R a b ≡ put_all R b a = ap (put_all R a) (sym q) ∙ all_swap a b ∙ ap (put_all R b) p in
        let l : length (put_all R a b) ≡ length (put_all R b a) = ap length e in
        let i = length-all_right b a in omega arith

    pub at_most-few : (s : List K) → length s ≤ n → at_most R n s ≡ fact s
    at_most-few s h = cond-true (leb (length s) n) (fact s) broken (le_leb')
      where
        le_leb' : leb (length s) n ≡ true
        le_leb' = elim (cases_Bool (leb (length s) n)) as (λ _. leb (length s) n ≡ true) [ inl t ↦ t | inr f ↦ absurd (let k : n < length s = leb-false (length s) n f in omega arith) ]

    pub at_most-many : (s : List K) → n < length s → at_most R n s ≡ broken
    at_most-many s h = cond-false (leb (length s) n) (fact s) broken (lt-leb (length s) n h)

    pub at_most_cases : (s : List K) (P : Type 0) → (length s ≤ n → at_most R n s ≡ fact s → P) → (n < length s → at_most R n s ≡ broken → P) → P
    at_most_cases s P few many =
        elim (cases_Bool (leb (length s) n)) as (λ _. P) [
          | inl t ↦ let h : length s ≤ n = leb-true (length s) n t in few h (at_most-few s h)
          | inr f ↦ let h : n < length s = leb-false (length s) n f in many h (at_most-many s h)
        ]

    ascending-all : (a b : List K) → distinct R b ≡ b → distinct R (put_all R a b) ≡ put_all R a b
    ascending-all a b q = all_assoc a b [] ∙ ap (put_all R a) q

    meet-left : (s c : List K) → distinct R s ≡ s → distinct R c ≡ c → both (few_meet R n) (at_most R n s) (fact c) ≡ at_most R n (put_all R s c)
    meet-left s c p q =
        at_most_cases s (both (few_meet R n) (at_most R n s) (fact c) ≡ at_most R n (put_all R s c))
        (λ h e. ap (λ k. both (few_meet R n) k (fact c)) e)
        (λ h e. ap (λ k. both (few_meet R n) k (fact c)) e ∙ sym (at_most-many (put_all R s c) (let i = length-all_left s c p q in omega arith)))

    meet-right : (a s : List K) → both (few_meet R n) (fact a) (at_most R n s) ≡ at_most R n (put_all R a s)
    meet-right a s =
        at_most_cases s (both (few_meet R n) (fact a) (at_most R n s) ≡ at_most R n (put_all R a s))
        (λ h e. ap (both (few_meet R n) (fact a)) e)
        (λ h e. ap (both (few_meet R n) (fact a)) e ∙ sym (at_most-many (put_all R a s) (let i = length-all_right a s in omega arith)))

    few_closed : (a b : List K) → IsFew R n a → IsFew R n b → IfFact (IsFew R n) (few_meet R n a b)
    few_closed a b p q =
        at_most_cases (put_all R a b) (IfFact (IsFew R n) (few_meet R n a b))
        (λ h e. subst (IfFact (IsFew R n)) (sym e) (record { ascending = ascending-all a b q.ascending; some = (let i = length-all_right a b in let j = q.some in omega arith); few = h }))
        (λ h e. subst (IfFact (IsFew R n)) (sym e) tt)

    pub few_laws : MeetLaws (IsFew R n) (few_meet R n)
    few_laws = record {
      closed = few_closed;
      assoc = λ a b c p q r.
          meet-left (put_all R a b) c (ascending-all a b q.ascending) r.ascending ∙ ap (at_most R n) (all_assoc a b c) ∙ sym (meet-right a (put_all R b c));
      comm = λ a b p q. ap (at_most R n) (ap (put_all R a) (sym q.ascending) ∙ all_swap a b ∙ ap (put_all R b) p.ascending);
      idem = λ a p. ap (at_most R n) (ap (put_all R a) (sym p.ascending) ∙ all_twice a [] ∙ p.ascending) ∙ at_most-few a p.few;
    }

    few-one : 0 < n → (v : K) → few_of R n (v ∷ []) ≡ fact (v ∷ [])
    few-one pos v = ap (at_most R n) (put-nil v) ∙ at_most-few (v ∷ []) (omega arith)

    pub few_one : 0 < n → (v : K) → IfFact (IsFew R n) (few_of R n (v ∷ []))
    few_one pos v = subst (IfFact (IsFew R n)) (sym (few-one pos v)) (record { ascending = put-nil v; some = omega arith; few = omega arith })

    pub few_more : 0 < n → (v : K) (vs : List K) → few_of R n (v ∷ vs) ≡ both (few_meet R n) (few_of R n (v ∷ [])) (few_of R n vs)
    few_more pos v [] = few-one pos v ∙ sym (ap (λ k. both (few_meet R n) k nothing) (few-one pos v))
    few_more pos v (w ∷ ws) = sym (ap (λ k. both (few_meet R n) k (few_of R n (w ∷ ws))) (few-one pos v) ∙ meet-right (v ∷ []) (distinct R (w ∷ ws)))
