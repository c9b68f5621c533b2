-- A list in ascending order is the only one that has the items, each as often, and ascends.
use Rattle.std.specs.Prelude.{◌≡◌, ◌<◌, ◌≤◌, ◌+◌, ℕ, zero, suc, true, false, All, List, [], ◌∷◌, if◌then◌else◌, length, refl, sum_by}
use Rattle.std.specs.Cmp.{IsTotalOrder}
use Rattle.std.specs.List.Sorted.{IsPermutation, IsSorted}
use Rattle.std.specs.Ordering.{is_eq, is_gt, is_lt, ordering_reverse}
use Rattle.std.specs.declared.cmp.Ordering.{Ordering}
use Rattle.std.specs.declared.cmp.Ordering.TheVariants.{Less, Equal, Greater}
use Rattle.std.proofs.Common.{◌∙◌, ap, arith, get_or, inl, inr, subst, sym}
use Rattle.std.proofs.lemmas.Bool.{cases_Bool, true≢false}
use Rattle.std.proofs.lemmas.Cmp.{tied_itself, upto}
use Rattle.std.proofs.lemmas.List.Elements.{All-cons, All-from_get_or, All-head, All-nil, All-tail, All-weaker}
use Rattle.std.proofs.lemmas.List.Sorted.{ranks_by, sorted_far, sum_by-IsPermutation}
use Rattle.std.proofs.lemmas.List.Sums.{sum_by-cons}
use Rattle.dk_snapshot.specs.Sorting.{ascending, put}

-- ---- answers of a comparison
not_greater : (r s : Ordering) → r ≡ ordering_reverse s → is_lt s ≡ false → is_gt r ≡ false
not_greater r Less e h = absurd (true≢false h)
not_greater r Equal e h = ap is_gt e
not_greater r Greater e h = ap is_gt e

not_equal : (r : Ordering) → (r ≡ Equal → ⊥) → is_eq r ≡ false
not_equal Less f = refl
not_equal Equal f = absurd (f refl)
not_equal Greater f = refl

turned_greater : (r s : Ordering) → r ≡ ordering_reverse s → is_gt s ≡ true → is_gt r ≡ false
turned_greater r Less e h = absurd (true≢false (sym h))
turned_greater r Equal e h = absurd (true≢false (sym h))
turned_greater r Greater e h = ap is_gt e

module _ {X : Type 0} (R : X → X → Ordering) (o : IsTotalOrder R) where
  -- no item is greater than a later one
  abbrev Rises : List X → Type 0
  Rises [] = Unit {0}
  Rises (x ∷ xs) = All (λ y. is_gt (R x y) ≡ false) xs × Rises xs

  -- ---- the items in order
  all_put : (P : X → Type 0) (x : X) (ys : List X) → P x → All P ys → All P (put R x ys)
  all_put P x [] p all = All-cons P x [] p all
  all_put P x (y ∷ ys) p all =
      elim (is_gt (R x y)) as (λ b. All P (if b then y ∷ put R x ys else x ∷ y ∷ ys)) [
        | true ↦ All-cons P y (put R x ys) (All-head P y ys all) (all_put P x ys p (All-tail P y ys all))
        | false ↦ All-cons P x (y ∷ ys) p all
      ]

  put_rises : (x : X) (ys : List X) → Rises ys → Rises (put R x ys)
  put_rises x [] up = (All-nil (λ y. is_gt (R x y) ≡ false), tt)
  put_rises x (y ∷ ys) up =
      elim (cases_Bool (is_gt (R x y))) [
        | inl greater ↦ subst (λ b. Rises (if b then y ∷ put R x ys else x ∷ y ∷ ys)) (sym greater)
            (all_put (λ z. is_gt (R y z) ≡ false) x ys (turned_greater (R y x) (R x y) (o.antisymm y x) greater) up.0, put_rises x ys up.1)
        | inr not ↦ subst (λ b. Rises (if b then y ∷ put R x ys else x ∷ y ∷ ys)) (sym not)
            (All-cons (λ z. is_gt (R x z) ≡ false) y ys not (All-weaker (λ z. is_gt (R y z) ≡ false) (λ z. is_gt (R x z) ≡ false) (λ z h. upto o x y z not h) ys up.0), up)
      ]

  ascending_rises : (xs : List X) → Rises (ascending R xs)
  ascending_rises [] = tt
  ascending_rises (x ∷ xs) = put_rises x (ascending R xs) (ascending_rises xs)

  rises_next : (xs : List X) → Rises xs → (i : ℕ) (d : X) → suc i < length xs → is_gt (R (get_or xs i d) (get_or xs (suc i) d)) ≡ false
  rises_next [] up i d l = absurd (omega (arith, l))
  rises_next (x ∷ xs) up zero d l = up.0 0 d (omega (arith, l))
  rises_next (x ∷ xs) up (suc i) d l = rises_next xs up.1 i d (omega (arith, l))

  -- no item is greater than the next one
  pub ascending_next : (xs ys : List X) → ascending R xs ≡ ys → (i : ℕ) (d : X) → i + 1 < length ys → is_gt (R (get_or ys i d) (get_or ys (i + 1) d)) ≡ false
  ascending_next xs ys e i d l =
      let more : suc i ≡ i + 1 = omega arith in
      subst (λ n. is_gt (R (get_or ys i d) (get_or ys n d)) ≡ false) more (rises_next ys (subst Rises e (ascending_rises xs)) i d (omega (arith, l)))

  put_weighs : (f : X → ℕ) (x : X) (ys : List X) → sum_by f (put R x ys) ≡ f x + sum_by f ys
  put_weighs f x [] = sum_by-cons f x []
  put_weighs f x (y ∷ ys) =
      elim (is_gt (R x y)) as (λ b. sum_by f (if b then y ∷ put R x ys else x ∷ y ∷ ys) ≡ f x + sum_by f (y ∷ ys)) [
        | true ↦ omega (arith, sum_by-cons f y (put R x ys), put_weighs f x ys, sum_by-cons f y ys)
        | false ↦ sum_by-cons f x (y ∷ ys)
      ]

  ascending_weighs : (f : X → ℕ) (xs : List X) → sum_by f (ascending R xs) ≡ sum_by f xs
  ascending_weighs f [] = refl
  ascending_weighs f (x ∷ xs) = put_weighs f x (ascending R xs) ∙ (ap (λ n. f x + n) (ascending_weighs f xs) ∙ sym (sum_by-cons f x xs))

  rises_from : (ys : List X) → ((i j : ℕ) (d : X) → i ≤ j → j < length ys → is_lt (R (get_or ys j d) (get_or ys i d)) ≡ false) → Rises ys
  rises_from [] far = tt
  rises_from (y ∷ ys) far = (
    All-from_get_or (λ z. is_gt (R y z) ≡ false) ys y (λ i l. not_greater (R y (get_or ys i y)) (R (get_or ys i y) y) (o.antisymm y (get_or ys i y)) (far 0 (suc i) y (omega arith) (omega (arith, l)))),
    rises_from ys (λ i j d l m. far (suc i) (suc j) d (omega (arith, l)) (omega (arith, m))),
  )

  -- ---- one list
  module _ (same : (x y : X) → R x y ≡ Equal → x ≡ y) where
    -- how often x is an item
    abbrev one : X → X → ℕ
    one x y = if is_eq (R x y) then 1 else 0

    none_past : (x y : X) (ys : List X) → R x y ≡ Less → All (λ z. is_gt (R y z) ≡ false) ys → sum_by (one x) ys ≡ 0
    none_past x y [] less all = refl
    none_past x y (z ∷ zs) less all =
        let apart : R x z ≡ Equal → ⊥ = λ e.
        true≢false (sym (ap is_gt (ap (R y) (sym (same x z e)) ∙ (o.antisymm y x ∙ ap ordering_reverse less))) ∙ All-head (λ z. is_gt (R y z) ≡ false) z zs all)
        in
        let here : one x z ≡ 0 = ap (λ b. if b then 1 else 0) (not_equal (R x z) apart) in
        let there = none_past x y zs less (All-tail (λ z. is_gt (R y z) ≡ false) z zs all) in
        omega (arith, sum_by-cons (one x) z zs, here, there)

    -- an item that is less than all of the second list is none of them
    apart : (x y : X) (xs ys : List X) → All (λ z. is_gt (R y z) ≡ false) ys → ((f : X → ℕ) → sum_by f (x ∷ xs) ≡ sum_by f (y ∷ ys)) → R x y ≡ Less → ⊥
    apart x y xs ys up alike less =
        let own : one x x ≡ 1 = ap (λ r. if is_eq r then 1 else 0) (tied_itself o x) in
        let here : one x y ≡ 0 = ap (λ r. if is_eq r then 1 else 0) less in
        omega (arith, alike (one x), sum_by-cons (one x) x xs, sum_by-cons (one x) y ys, own, here, none_past x y ys less up)

    heads : (x y : X) (xs ys : List X) → All (λ z. is_gt (R x z) ≡ false) xs → All (λ z. is_gt (R y z) ≡ false) ys → ((f : X → ℕ) → sum_by f (x ∷ xs) ≡ sum_by f (y ∷ ys)) → (r : Ordering) → R x y ≡ r → x ≡ y
    heads x y xs ys up on alike Less e = absurd (apart x y xs ys on alike e)
    heads x y xs ys up on alike Equal e = same x y e
    heads x y xs ys up on alike Greater e = absurd (apart y x ys xs up (λ f. sym (alike f)) (o.antisymm y x ∙ ap ordering_reverse e))

    one_list : (xs ys : List X) → Rises xs → Rises ys → ((f : X → ℕ) → sum_by f xs ≡ sum_by f ys) → xs ≡ ys
    one_list [] [] up on alike = refl
    one_list [] (y ∷ ys) up on alike = absurd (omega (arith, alike (λ _. 1), sum_by-cons (λ _. 1) y ys))
    one_list (x ∷ xs) [] up on alike = absurd (omega (arith, alike (λ _. 1), sum_by-cons (λ _. 1) x xs))
    one_list (x ∷ xs) (y ∷ ys) up on alike =
        let first : x ≡ y = heads x y xs ys up.0 on.0 alike (R x y) refl in
        ap (λ z. z ∷ xs) first ∙ ap (λ zs. y ∷ zs) (one_list xs ys up.1 on.1 (λ f. omega (arith, alike f, sum_by-cons f x xs, sum_by-cons f y ys, ap f first)))

    -- what sorting gives
    pub sorted_is_ascending : (xs ys : List X) → IsPermutation xs ys → IsSorted R ys → ys ≡ ascending R xs
    sorted_is_ascending xs ys moved up =
        one_list ys (ascending R xs) (rises_from ys (sorted_far (λ x y. is_lt (R x y)) (ranks_by o (λ x. x)) ys up)) (ascending_rises xs)
        (λ f. sum_by-IsPermutation f xs ys moved ∙ sym (ascending_weighs f xs))

    -- lists that have the same items, each as often, are one in order
    pub same_ascending : (xs ys : List X) → ((f : X → ℕ) → sum_by f xs ≡ sum_by f ys) → ascending R xs ≡ ascending R ys
    same_ascending xs ys alike =
        one_list (ascending R xs) (ascending R ys) (ascending_rises xs) (ascending_rises ys) (λ f. ascending_weighs f xs ∙ (alike f ∙ sym (ascending_weighs f ys)))
