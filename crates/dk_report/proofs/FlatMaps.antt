-- Lists that are made one after another.
use Rattle.std.specs.Prelude.{◌≡◌, ℕ, suc, Bool, true, false, List, [], ◌∷◌, ◌++◌, filter, flat_map, if◌then◌else◌, map, refl}
use Rattle.std.proofs.Common.{ap, append-nil, ◌∙◌, sym}
use Rattle.std.proofs.lemmas.List.Concat.{flat_map-append}
use Rattle.std.proofs.lemmas.List.Folds.{flat_map-map}
use Rattle.dk_instances.specs.Instances.{tuples_over}
use Rattle.dk_base.specs.declared.kinds.VarId.{VarId}

pub flat_map-same : {A B : Type 0} (f g : A → List B) → ((x : A) → f x ≡ g x) → (xs : List A) → flat_map f xs ≡ flat_map g xs
flat_map-same f g same [] = refl
flat_map-same f g same (x ∷ xs) = ap (λ r. f x ++ r) (flat_map-same f g same xs) ∙ ap (λ r. r ++ flat_map g xs) (same x)

pub flat_map-flat_map : {A B C : Type 0} (f : B → List C) (g : A → List B) (xs : List A) → flat_map f (flat_map g xs) ≡ flat_map (λ x. flat_map f (g x)) xs
flat_map-flat_map f g [] = refl
flat_map-flat_map f g (x ∷ xs) = flat_map-append f (g x) (flat_map g xs) ∙ ap (λ r. flat_map f (g x) ++ r) (flat_map-flat_map f g xs)

module _ {A B : Type 0} (f : A → List B) (q : A → Bool) where
  -- what gives nothing may be left out
  without : (x : A) (xs : List A) → (q x ≡ false → f x ≡ []) → (b : Bool) → q x ≡ b → flat_map f (filter q xs) ≡ flat_map f xs
      → flat_map f (if b then x ∷ filter q xs else filter q xs) ≡ f x ++ flat_map f xs
  without x xs none true e rest = ap (λ r. f x ++ r) rest
  without x xs none false e rest = rest ∙ ap (λ r. r ++ flat_map f xs) (sym (none e))

  pub flat_map-filter : ((x : A) → q x ≡ false → f x ≡ []) → (xs : List A) → flat_map f (filter q xs) ≡ flat_map f xs
  flat_map-filter none [] = refl
  flat_map-filter none (x ∷ xs) = without x xs (none x) (q x) refl (flat_map-filter none xs)

  -- those that pass, one by one
  abbrev pub if_passing : A → List B
  if_passing x = if q x then f x else []

  passing : (x : A) (xs : List A) (b : Bool) → flat_map f (filter q xs) ≡ flat_map if_passing xs
      → flat_map f (if b then x ∷ filter q xs else filter q xs) ≡ (if b then f x else []) ++ flat_map if_passing xs
  passing x xs true rest = ap (λ r. f x ++ r) rest
  passing x xs false rest = rest

  pub flat_map-passing : (xs : List A) → flat_map f (filter q xs) ≡ flat_map if_passing xs
  flat_map-passing [] = refl
  flat_map-passing (x ∷ xs) = passing x xs (q x) (flat_map-passing xs)

-- ---- over tuples
module _ {B : Type 0} (f : List VarId → List B) (all : List VarId) where
  pub one_more : (n : ℕ) → flat_map f (tuples_over (suc n) all) ≡ flat_map (λ v. flat_map (λ rest. f (v ∷ rest)) (tuples_over n all)) all
  one_more n =
      flat_map-flat_map f (λ v. map (λ rest. v ∷ rest) (tuples_over n all)) all
      ∙ flat_map-same (λ v. flat_map f (map (λ rest. v ∷ rest) (tuples_over n all))) (λ v. flat_map (λ rest. f (v ∷ rest)) (tuples_over n all))
      (λ v. flat_map-map f (λ rest. v ∷ rest) (tuples_over n all)) all

pub over_one : {B : Type 0} (f : List VarId → List B) (all : List VarId) → flat_map f (tuples_over 1 all) ≡ flat_map (λ v. f (v ∷ [])) all
over_one f all = one_more f all 0 ∙ flat_map-same (λ v. f (v ∷ []) ++ []) (λ v. f (v ∷ [])) (λ v. append-nil (f (v ∷ []))) all

pub over_two : {B : Type 0} (f : List VarId → List B) (all : List VarId) → flat_map f (tuples_over 2 all) ≡ flat_map (λ v. flat_map (λ w. f (v ∷ w ∷ [])) all) all
over_two f all =
    one_more f all 1
    ∙ flat_map-same (λ v. flat_map (λ rest. f (v ∷ rest)) (tuples_over 1 all)) (λ v. flat_map (λ w. f (v ∷ w ∷ [])) all) (λ v. over_one (λ rest. f (v ∷ rest)) all) all

pub over_three : {B : Type 0} (f : List VarId → List B) (all : List VarId) → flat_map f (tuples_over 3 all) ≡ flat_map (λ v. flat_map (λ w. flat_map (λ x. f (v ∷ w ∷ x ∷ [])) all) all) all
over_three f all =
    one_more f all 2
    ∙ flat_map-same (λ v. flat_map (λ rest. f (v ∷ rest)) (tuples_over 2 all)) (λ v. flat_map (λ w. flat_map (λ x. f (v ∷ w ∷ x ∷ [])) all) all) (λ v. over_two (λ rest. f (v ∷ rest)) all) all
