-- Lists without repeats that have the same items weigh the same.
use Rattle.std.specs.Prelude.{◌≡◌, ◌+◌, ◌⊎◌, ℕ, zero, suc, Contains, List, [], ◌∷◌, refl, sum_by}
use Rattle.std.proofs.Common.{◌∙◌, ap, arith, inl, inr, subst, sym}
use Rattle.std.proofs.lemmas.List.Sums.{sum_by-cons}

module _ {X : Type 0} where
  -- x is an item
  abbrev pub In : X → List X → Type 0
  In x [] = ⊥
  In x (y ∷ ys) = (y ≡ x) ⊎ In x ys

  -- no item is a later one
  abbrev pub Apart : List X → Type 0
  Apart [] = Unit {0}
  Apart (y ∷ ys) = ((z : X) → In z ys → y ≡ z → ⊥) × Apart ys

  pub in_from : (xs : List X) (x : X) → Contains xs x → In x xs
  in_from [] x h = absurd (omega (arith, h.1))
  in_from (y ∷ ys) x (zero, l, e) = inl e
  in_from (y ∷ ys) x (suc k, l, e) = inr (in_from ys x (k, omega (arith, l), e))

  pub contains_from : (xs : List X) (x : X) → In x xs → Contains xs x
  contains_from [] x h = absurd h
  contains_from (y ∷ ys) x (inl e) = (0, omega arith, e)
  contains_from (y ∷ ys) x (inr h) = let c = contains_from ys x h in (suc c.0, omega (arith, c.1), c.2)

  -- the list without one item
  without : (x : X) (ys : List X) → In x ys → List X
  without x [] h = absurd h
  without x (y ∷ ys) (inl e) = ys
  without x (y ∷ ys) (inr h) = y ∷ without x ys h

  weighs_without : (f : X → ℕ) (x : X) (ys : List X) (h : In x ys) → sum_by f ys ≡ f x + sum_by f (without x ys h)
  unfolding without
  weighs_without f x [] h = absurd h
  weighs_without f x (y ∷ ys) (inl e) = sum_by-cons f y ys ∙ ap (λ z. f z + sum_by f ys) e
  weighs_without f x (y ∷ ys) (inr h) = omega (arith, sum_by-cons f y ys, weighs_without f x ys h, sum_by-cons f y (without x ys h))

  stays : (z x : X) (ys : List X) (h : In x ys) → (x ≡ z → ⊥) → In z ys → In z (without x ys h)
  unfolding without
  stays z x [] h ne i = absurd h
  stays z x (y ∷ ys) (inl e) ne (inl i) = absurd (ne (sym e ∙ i))
  stays z x (y ∷ ys) (inl e) ne (inr i) = i
  stays z x (y ∷ ys) (inr h) ne (inl i) = inl i
  stays z x (y ∷ ys) (inr h) ne (inr i) = inr (stays z x ys h ne i)

  was : (z x : X) (ys : List X) (h : In x ys) → In z (without x ys h) → In z ys
  unfolding without
  was z x [] h i = absurd h
  was z x (y ∷ ys) (inl e) i = inr i
  was z x (y ∷ ys) (inr h) (inl i) = inl i
  was z x (y ∷ ys) (inr h) (inr i) = inr (was z x ys h i)

  gone : (x : X) (ys : List X) (h : In x ys) → Apart ys → In x (without x ys h) → ⊥
  unfolding without
  gone x [] h apart i = absurd h
  gone x (y ∷ ys) (inl e) apart i = apart.0 x i e
  gone x (y ∷ ys) (inr h) apart (inl i) = apart.0 x h i
  gone x (y ∷ ys) (inr h) apart (inr i) = gone x ys h apart.1 i

  apart_without : (x : X) (ys : List X) (h : In x ys) → Apart ys → Apart (without x ys h)
  unfolding without
  apart_without x [] h apart = absurd h
  apart_without x (y ∷ ys) (inl e) apart = apart.1
  apart_without x (y ∷ ys) (inr h) apart = (λ z i. apart.0 z (was z x ys h i), apart_without x ys h apart.1)

  pub same_weights : (xs ys : List X) → Apart xs → Apart ys → ((z : X) → In z xs → In z ys) → ((z : X) → In z ys → In z xs) → (f : X → ℕ) → sum_by f xs ≡ sum_by f ys
  same_weights [] [] apart also to from f = refl
  same_weights [] (y ∷ ys) apart also to from f = absurd (from y (inl refl))
  same_weights (x ∷ xs) ys apart also to from f =
      let h : In x ys = to x (inl refl) in
      let rest : sum_by f xs ≡ sum_by f (without x ys h) =
      same_weights xs (without x ys h) apart.1 (apart_without x ys h also) (λ z i. stays z x ys h (apart.0 z i) (to z (inr i))) (λ z i. left z h i (from z (was z x ys h i))) f
      in
      omega (arith, sum_by-cons f x xs, rest, weighs_without f x ys h)
    where
      left : (z : X) (h : In x ys) → In z (without x ys h) → In z (x ∷ xs) → In z xs
      left z h i (inl e) = absurd (gone x ys h also (subst (λ w. In w (without x ys h)) (sym e) i))
      left z h i (inr k) = k
