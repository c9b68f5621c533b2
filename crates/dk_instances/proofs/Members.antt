-- Which values lists have, that were made from others.
use Rattle.std.specs.Prelude.{◌≡◌, ◌<◌, ◌≤◌, ◌+◌, ◌⊎◌, ℕ, zero, suc, Bool, true, false, Contains, List, [], ◌∷◌, ◌++◌, cond, filter, flat_map, length, map, refl}
use Rattle.std.specs.List.{range_with_len}
use Rattle.std.proofs.Common.{ap, ◌∙◌, arith, get_or, inl, inr, subst, sym}
use Rattle.std.proofs.lemmas.Bool.{cases_lt}
use Rattle.dk_forms.proofs.Summaries.{IsIn-append_left, IsIn-append_right}
use Rattle.dk_forms.specs.Laws.{IsIn}

pub is_in : {X : Type 0} (x : X) (xs : List X) (k : ℕ) → k < length xs → get_or xs k x ≡ x → IsIn x xs
is_in x [] k l e = absurd (omega (arith, l))
is_in x (y ∷ xs) zero l e = inl (sym e)
is_in x (y ∷ xs) (suc k) l e = inr (is_in x xs k (omega (arith, l)) e)

pub contained : {X : Type 0} (x : X) (xs : List X) → IsIn x xs → Contains xs x
contained x [] h = absurd h
contained x (y ∷ xs) h = elim h as (λ _. Contains (y ∷ xs) x) [
  | inl e ↦ (0, omega arith, sym e)
  | inr r ↦ let c = contained x xs r in let l = c.1 in (suc c.0, omega (arith, l), c.2)
]

pub append_cases : {X : Type 0} (x : X) (xs ys : List X) → IsIn x (xs ++ ys) → IsIn x xs ⊎ IsIn x ys
append_cases x [] ys h = inr h
append_cases x (y ∷ xs) ys h = elim h as (λ _. IsIn x (y ∷ xs) ⊎ IsIn x ys) [
  | inl e ↦ inl (inl e)
  | inr r ↦ elim (append_cases x xs ys r) as (λ _. IsIn x (y ∷ xs) ⊎ IsIn x ys) [ inl a ↦ inl (inr a) | inr b ↦ inr b ]
]

module _ {X Y : Type 0} (f : X → Y) where
  pub in_map : (x : X) (xs : List X) → IsIn x xs → IsIn (f x) (map f xs)
  in_map x [] h = absurd h
  in_map x (y ∷ xs) h = elim h as (λ _. IsIn (f x) (f y ∷ map f xs)) [ inl e ↦ inl (ap f e) | inr r ↦ inr (in_map x xs r) ]

  pub of_map : (y : Y) (xs : List X) → IsIn y (map f xs) → (x : X) × IsIn x xs × (y ≡ f x)
  of_map y [] h = absurd h
  of_map y (x ∷ xs) h = elim h as (λ _. (z : X) × IsIn z (x ∷ xs) × (y ≡ f z)) [
    | inl e ↦ (x, inl refl, e)
    | inr r ↦ let p = of_map y xs r in (p.0, inr p.1, p.2)
  ]

module _ {X Y : Type 0} (f : X → List Y) where
  pub in_flat : (y : Y) (x : X) (xs : List X) → IsIn y (f x) → IsIn x xs → IsIn y (flat_map f xs)
  in_flat y x [] h i = absurd i
  in_flat y x (z ∷ xs) h i = elim i as (λ _. IsIn y (f z ++ flat_map f xs)) [
    | inl e ↦ IsIn-append_left y (f z) (flat_map f xs) (subst (λ w. IsIn y (f w)) e h)
    | inr r ↦ IsIn-append_right y (f z) (flat_map f xs) (in_flat y x xs h r)
  ]

  pub of_flat : (y : Y) (xs : List X) → IsIn y (flat_map f xs) → (x : X) × IsIn x xs × IsIn y (f x)
  of_flat y [] h = absurd h
  of_flat y (x ∷ xs) h = elim (append_cases y (f x) (flat_map f xs) h) as (λ _. (z : X) × IsIn z (x ∷ xs) × IsIn y (f z)) [
    | inl a ↦ (x, inl refl, a)
    | inr b ↦ let p = of_flat y xs b in (p.0, inr p.1, p.2)
  ]

module _ {X : Type 0} (p : X → Bool) where
  pub in_filter : (x : X) (xs : List X) → IsIn x xs → p x ≡ true → IsIn x (filter p xs)
  in_filter x [] h e = absurd h
  in_filter x (y ∷ xs) h e = elim h as (λ _. IsIn x (cond (p y) (y ∷ filter p xs) (filter p xs))) [
    | inl i ↦ subst (λ b. IsIn x (cond b (y ∷ filter p xs) (filter p xs))) (sym (ap p (sym i) ∙ e)) (inl i)
    | inr r ↦ elim (p y) as (λ b. IsIn x (cond b (y ∷ filter p xs) (filter p xs))) [ true ↦ inr (in_filter x xs r e) | false ↦ in_filter x xs r e ]
  ]

  pub of_filter : (x : X) (xs : List X) → IsIn x (filter p xs) → IsIn x xs × (p x ≡ true)
  of_filter x [] h = absurd h
  of_filter x (y ∷ xs) h =
      let by : (b : Bool) → p y ≡ b → IsIn x (cond b (y ∷ filter p xs) (filter p xs)) → IsIn x (y ∷ xs) × (p x ≡ true) =
      λ b. elim b as (λ c. p y ≡ c → IsIn x (cond c (y ∷ filter p xs) (filter p xs)) → IsIn x (y ∷ xs) × (p x ≡ true)) [
        | true ↦ λ e i. elim i as (λ _. IsIn x (y ∷ xs) × (p x ≡ true)) [
          | inl s ↦ (inl s, ap p s ∙ e)
          | inr r ↦ let q = of_filter x xs r in (inr q.0, q.1)
        ]
        | false ↦ λ e i. let q = of_filter x xs i in (inr q.0, q.1)
      ] in
      by (p y) refl h

-- ---- numbers in a row
pub in_range : (k a n : ℕ) → a ≤ k → k < a + n → IsIn k (range_with_len a n)
in_range k a zero l h = absurd (omega (arith, l, h))
in_range k a (suc n) l h = elim (cases_lt a k) as (λ _. IsIn k (a ∷ range_with_len (a + 1) n)) [
  | inl m ↦ inr (in_range k (a + 1) n (omega (arith, m)) (omega (arith, h)))
  | inr m ↦ inl (omega (arith, l, m))
]

pub of_range : (k a n : ℕ) → IsIn k (range_with_len a n) → (a ≤ k) × (k < a + n)
of_range k a zero h = absurd h
of_range k a (suc n) h = elim h as (λ _. (a ≤ k) × (k < a + suc n)) [
  | inl e ↦ (omega (arith, e), omega (arith, e))
  | inr r ↦ let p = of_range k (a + 1) n r in let low = p.0 in let high = p.1 in (omega (arith, low), omega (arith, high))
]
