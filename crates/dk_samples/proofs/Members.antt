-- Lists that ascend and have the same members are one list.
use Rattle.std.specs.Prelude.{◌≡◌, ◌⊎◌, zero, suc, Contains, List, [], ◌∷◌, refl}
use Rattle.std.specs.List.{AllPairs}
use Rattle.std.proofs.Common.{ap, ◌∙◌, arith, sym, inl, inr, subst}

module _ {X : Type 0} (R : X → X → Type 0) (one_way : (x y : X) → R x y → R y x → ⊥) where
  first : (x : X) (xs : List X) → Contains (x ∷ xs) x
  first x xs = (0, omega arith, refl)

  later : (x y : X) (xs : List X) → Contains xs y → Contains (x ∷ xs) y
  later x y xs h = (suc h.0, omega (arith, h.1), h.2)

  cases : (x y : X) (xs : List X) → Contains (x ∷ xs) y → (x ≡ y) ⊎ Contains xs y
  cases x y xs (zero, l, e) = inl e
  cases x y xs (suc k, l, e) = inr (k, omega (arith, l), e)

  rest : (x : X) (xs : List X) → AllPairs R (x ∷ xs) → AllPairs R xs
  rest x xs up i j d l m = up (suc i) (suc j) d (omega (arith, l)) (omega (arith, m))

  before : (x y : X) (xs : List X) → AllPairs R (x ∷ xs) → Contains xs y → R x y
  before x y xs up (k, l, e) = subst (R x) e (up 0 (suc k) y (omega arith) (omega (arith, l)))

  -- what is in the one tail is in the other
  in_tail : (x : X) (xs ys : List X) → AllPairs R (x ∷ xs) → ((z : X) → Contains (x ∷ xs) z → Contains (x ∷ ys) z) → (z : X) → Contains xs z → Contains ys z
  in_tail x xs ys up to z h = elim (cases x z ys (to z (later x z xs h))) [
    | inl e ↦ let own : R x x = subst (R x) (sym e) (before x z xs up h) in absurd (one_way x x own own)
    | inr c ↦ c
  ]

  pub same_members : (xs ys : List X) → AllPairs R xs → AllPairs R ys → ((z : X) → Contains xs z → Contains ys z) → ((z : X) → Contains ys z → Contains xs z) → xs ≡ ys
  same_members [] [] up on to from = refl
  same_members [] (y ∷ ys) up on to from = let c = from y (first y ys) in absurd (omega (arith, c.1))
  same_members (x ∷ xs) [] up on to from = let c = to x (first x xs) in absurd (omega (arith, c.1))
  same_members (x ∷ xs) (y ∷ ys) up on to from =
      let heads : x ≡ y = elim (cases y x ys (to x (first x xs))) as (λ _. x ≡ y) [
        | inl e ↦ sym e
        | inr a ↦ elim (cases x y xs (from y (first y ys))) as (λ _. x ≡ y) [
          | inl e ↦ e
          | inr b ↦ absurd (one_way x y (before x y xs up b) (before y x ys on a))
        ]
      ] in
      let on_x : AllPairs R (x ∷ ys) = subst (λ z. AllPairs R (z ∷ ys)) (sym heads) on in
      ap (λ zs. x ∷ zs) (same_members xs ys (rest x xs up) (rest y ys on)
      (in_tail x xs ys up (λ z h. subst (λ w. Contains (w ∷ ys) z) (sym heads) (to z h)))
      (in_tail x ys xs on_x (λ z h. from z (subst (λ w. Contains (w ∷ ys) z) heads h))))
      ∙ ap (λ z. z ∷ ys) heads
