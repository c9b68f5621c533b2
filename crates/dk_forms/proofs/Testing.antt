-- Tests of all values of a list.
use Rattle.std.specs.Prelude.{[], ◌≡◌, Bool, true, false, ◌&&◌, List, ◌∷◌, ◌⊎◌, refl}
use Rattle.std.specs.List.{list_all}
use Rattle.std.proofs.Common.{ap, ◌∙◌, inl, inr}
use Rattle.std.proofs.lemmas.Bool.{cases_Bool}
use Rattle.dk_forms.specs.Laws.{IsIn}

-- all values pass, or one of them doesn't
pub all_or_one : {X : Type 0} (f : X → Bool) (xs : List X) → ((list_all f xs ≡ true) × ((x : X) → IsIn x xs → f x ≡ true)) ⊎ ((list_all f xs ≡ false) × ((x : X) × IsIn x xs × (f x ≡ false)))
all_or_one f [] = inl (refl, λ x i. absurd i)
all_or_one {X = X} f (y ∷ ys) =
    let Goal : Type 0 = ((list_all f (y ∷ ys) ≡ true) × ((x : X) → IsIn x (y ∷ ys) → f x ≡ true)) ⊎ ((list_all f (y ∷ ys) ≡ false) × ((x : X) × IsIn x (y ∷ ys) × (f x ≡ false))) in
    elim (cases_Bool (f y)) as (λ _. Goal) [
      | inr e ↦ inr (ap (λ b. b && list_all f ys) e, (y, inl refl, e))
      | inl e ↦ elim (all_or_one f ys) as (λ _. Goal) [
        | inl h ↦ inl (ap (λ b. b && list_all f ys) e ∙ h.0, λ x i. elim i as (λ _. f x ≡ true) [ inl s ↦ ap f s ∙ e | inr j ↦ h.1 x j ])
        | inr h ↦ let one = h.1 in inr (ap (λ b. b && list_all f ys) e ∙ h.0, (one.0, inr one.1, one.2))
      ]
    ]
