-- Choices of one item from each of several lists.
use Rattle.std.specs.Prelude.{◌≡◌, ◌&&◌, ◌||◌, ◌++◌, Bool, true, List, [], ◌∷◌, flat_map, map, refl}
use Rattle.std.specs.List.{list_all, list_any}
use Rattle.std.proofs.Common.{ap, append_assoc, sym, ◌∙◌}
use Rattle.std.proofs.Math.Bool.{or-false}
use Rattle.std.proofs.lemmas.Bool.{and_parts}
use Rattle.std.proofs.lemmas.List.{append-nil}
use Rattle.std.proofs.lemmas.List.Folds.{list_all-append, list_any-append}
use Rattle.dk_filters.specs.Choices.{all_from, some_from}
use Rattle.dk_filters.specs.Facts.{one_of_each}

module _ {A : Type 0} where
  pub any-alike : (p q : A → Bool) → ((x : A) → p x ≡ q x) → (xs : List A) → list_any p xs ≡ list_any q xs
  any-alike p q same xs = ap (λ (f : A → Bool). list_any f xs) (λ i x. same x i)

  all-alike : (p q : A → Bool) → ((x : A) → p x ≡ q x) → (xs : List A) → list_all p xs ≡ list_all q xs
  all-alike p q same xs = ap (λ (f : A → Bool). list_all f xs) (λ i x. same x i)

module _ {A B : Type 0} where
  pub any-map : (p : B → Bool) (f : A → B) (xs : List A) → list_any p (map f xs) ≡ list_any (λ x. p (f x)) xs
  any-map p f [] = refl
  any-map p f (x ∷ xs) = ap (λ b. p (f x) || b) (any-map p f xs)

  all-map : (p : B → Bool) (f : A → B) (xs : List A) → list_all p (map f xs) ≡ list_all (λ x. p (f x)) xs
  all-map p f [] = refl
  all-map p f (x ∷ xs) = ap (λ b. p (f x) && b) (all-map p f xs)

  any-flat : (p : B → Bool) (f : A → List B) (xs : List A) → list_any p (flat_map f xs) ≡ list_any (λ x. list_any p (f x)) xs
  any-flat p f [] = refl
  any-flat p f (x ∷ xs) = list_any-append p (f x) (flat_map f xs) ∙ ap (λ b. list_any p (f x) || b) (any-flat p f xs)

  all-flat : (p : B → Bool) (f : A → List B) (xs : List A) → list_all p (flat_map f xs) ≡ list_all (λ x. list_all p (f x)) xs
  all-flat p f [] = refl
  all-flat p f (x ∷ xs) = list_all-append p (f x) (flat_map f xs) ∙ ap (λ b. list_all p (f x) && b) (all-flat p f xs)

module _ {A : Type 0} (test : List A → Bool) (front : List A) where
  -- nothing more is chosen
  pub some_end : some_from test front [] ≡ test front
  some_end = or-false (test (front ++ [])) ∙ ap test (append-nil front)

  pub all_end : all_from test front [] ≡ true → test front ≡ true
  all_end h = ap test (sym (append-nil front)) ∙ (and_parts (test (front ++ [])) true h).0

module _ {A : Type 0} (test : List A → Bool) (front : List A) (xs : List A) (lists : List (List A)) where
  moved : (x : A) (more : List A) → test (front ++ x ∷ more) ≡ test ((front ++ x ∷ []) ++ more)
  moved x more = ap test (sym (append_assoc front (x ∷ []) more))

  -- The next item is one of the first list.
  pub some_step : some_from test front (xs ∷ lists) ≡ list_any (λ x. some_from test (front ++ x ∷ []) lists) xs
  some_step =
      any-flat (λ more. test (front ++ more)) (λ x. map (λ more. x ∷ more) (one_of_each lists)) xs
      ∙ any-alike (λ x. list_any (λ more. test (front ++ more)) (map (λ more. x ∷ more) (one_of_each lists))) (λ x. some_from test (front ++ x ∷ []) lists)
      (λ x. any-map (λ more. test (front ++ more)) (λ more. x ∷ more) (one_of_each lists)
      ∙ any-alike (λ more. test (front ++ x ∷ more)) (λ more. test ((front ++ x ∷ []) ++ more)) (moved x) (one_of_each lists)) xs

  pub all_step : all_from test front (xs ∷ lists) ≡ list_all (λ x. all_from test (front ++ x ∷ []) lists) xs
  all_step =
      all-flat (λ more. test (front ++ more)) (λ x. map (λ more. x ∷ more) (one_of_each lists)) xs
      ∙ all-alike (λ x. list_all (λ more. test (front ++ more)) (map (λ more. x ∷ more) (one_of_each lists))) (λ x. all_from test (front ++ x ∷ []) lists)
      (λ x. all-map (λ more. test (front ++ more)) (λ more. x ∷ more) (one_of_each lists)
      ∙ all-alike (λ more. test (front ++ x ∷ more)) (λ more. test ((front ++ x ∷ []) ++ more)) (moved x) (one_of_each lists)) xs
