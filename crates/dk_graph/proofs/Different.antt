-- Names that are all different.
use Rattle.std.proofs.Common.{◌≡◌, ◌∙◌, ◌⊎◌, ◌++◌, ◌<◌, ℕ, zero, suc, true, Bool, List, [], ◌∷◌, length, get_or, arith, Option, None, Some, slice_get, bytes_eq, inl, inr, refl, ap, sym, map}
use Rattle.dk_graph.specs.Names.{AreDifferent, place_of}
use Rattle.dk_graph.proofs.Places.{bytes_eq-same, bytes_eq-true, some-injective}
use Rattle.dk_graph.proofs.Positions.{or_last, place_of-push}

pub none_are : (all : List (List ℕ)) → all ≡ [] → AreDifferent all
none_are all none i name at = let nothing : slice_get [] i ≡ Some name = ap (λ (l : List (List ℕ)). slice_get l i) (sym none) ∙ at in absurd (cc nothing)

old_or_last : (all : List (List ℕ)) (x : List ℕ) (i : ℕ) (name : List ℕ) → slice_get (all ++ x ∷ []) i ≡ Some name → (slice_get all i ≡ Some name) ⊎ ((i ≡ length all) × (x ≡ name))
old_or_last [] x zero name at = inr (refl, some-injective at)
old_or_last [] x (suc i) name at = absurd (cc at)
old_or_last (y ∷ ys) x zero name at = inl at
old_or_last (y ∷ ys) x (suc i) name at = elim (old_or_last ys x i name at) [ inl old ↦ inl old | inr last ↦ inr (ap suc last.0, last.1) ]

-- a name that has no place yet goes last
pub one_more : (all more : List (List ℕ)) (x : List ℕ) → more ≡ all ++ x ∷ [] → place_of all x ≡ None → AreDifferent all → AreDifferent more
one_more all more x is none are i name at =
    elim (old_or_last all x i name (ap (λ (l : List (List ℕ)). slice_get l i) (sym is) ∙ at)) [
      | inl old ↦ ap (λ (l : List (List ℕ)). place_of l name) is ∙ place_of-push all x name ∙ ap (λ (o : Option ℕ). or_last o (bytes_eq name x) (length all)) (are i name old)
      | inr last ↦ ap (λ (l : List (List ℕ)). place_of l name) is ∙ place_of-push all x name
          ∙ ap (λ (n : List ℕ). or_last (place_of all n) (bytes_eq n x) (length all)) (sym last.1)
          ∙ ap (λ (o : Option ℕ). or_last o (bytes_eq x x) (length all)) none
          ∙ ap (λ (b : Bool). or_last None b (length all)) (bytes_eq-same x)
          ∙ ap Some (sym last.0)
    ]

-- what stands at a place, in the words of an index
pub stands_at : {X : Type 0} (f : X → List ℕ) (xs : List X) (i : ℕ) (x : X) → i < length xs → x ≡ get_or xs i x → slice_get (map f xs) i ≡ Some (f x)
stands_at f [] i x lt at = absurd (omega (arith, lt))
stands_at f (y ∷ ys) zero x lt at = ap (λ z. Some (f z)) (sym at)
stands_at f (y ∷ ys) (suc i) x lt at = stands_at f ys i x (omega (arith, lt)) at

-- a name that stands at a place is found there
pub found_here : (all : List (List ℕ)) (place : ℕ) (here name : List ℕ) (is : Bool) → AreDifferent all → slice_get all place ≡ Some here → is ≡ bytes_eq here name → is ≡ true → Some place ≡ place_of all name
found_here all place here name is are at same equal =
    sym (are place name (at ∙ ap Some (bytes_eq-true here name (sym same ∙ equal))))
