-- What is found by a number, and a filter by a number.
use Rattle.std.specs.Prelude.{◌≡◌, ◌<◌, ◌≤◌, ◌&&◌, ◌||◌, ◌==◌, ◌∷◌, ℕ, Bool, true, false, List, [], filter, nat_lt, refl}
use Rattle.std.specs.List.{list_all, list_any}
use Rattle.std.proofs.Common.{ap, ◌∙◌, arith, cond}
use Rattle.std.proofs.lemmas.Bool.{and_parts, ltb-true}

differs : (a b : ℕ) → a < b → (a == b) ≡ false
differs a b less = grind arith

module _ {A : Type 0} where
  -- what passes two tests
  pub any_filter : (f g : A → Bool) (xs : List A) → list_any f (filter g xs) ≡ list_any (λ x. g x && f x) xs
  any_filter f g [] = refl
  any_filter f g (x ∷ xs) = elim (g x) as (λ b. list_any f (cond b (x ∷ filter g xs) (filter g xs)) ≡ ((b && f x) || list_any (λ y. g y && f y) xs)) [
    | true ↦ ap (λ b. f x || b) (any_filter f g xs)
    | false ↦ any_filter f g xs
  ]

  -- nothing has a number past all
  pub filter_past : (key : A → ℕ) (n k : ℕ) → n ≤ k → (xs : List A) → list_all (λ x. nat_lt (key x) n) xs ≡ true → filter (λ x. key x == k) xs ≡ []
  filter_past key n k past [] h = refl
  filter_past key n k past (x ∷ xs) h =
      let hs = and_parts (nat_lt (key x) n) (list_all (λ y. nat_lt (key y) n) xs) h in
      let less : key x < n = ltb-true (key x) n hs.0 in
      let behind : List A = filter (λ y. key y == k) xs in
      ap (λ b. cond b (x ∷ behind) behind) (differs (key x) k (omega (arith, less, past))) ∙ filter_past key n k past xs hs.1
