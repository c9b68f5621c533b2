-- Values of which those out of a limit say nothing.
use Rattle.std.specs.Prelude.{[], ◌≡◌, Bool, true, false, if◌then◌else◌, List, ◌∷◌}
use Rattle.std.specs.List.{list_all}
use Rattle.std.proofs.Common.{sym, ap, subst, inl, inr}
use Rattle.std.proofs.lemmas.Bool.{cases_Bool}
use Rattle.dk_forms.proofs.Order.{Below, IsHullOf}
use Rattle.dk_forms.specs.Known.{IfFact, Known, broken, fact, nothing}
use Rattle.dk_forms.specs.Laws.{IsIn}
use Rattle.dk_forms.proofs.Testing.{all_or_one}
use Rattle.dk_forms.specs.Known.Limited.{limited_of}

-- what is known of points, each of which says something
pub record IsKnownOf {F V : Type 0} (Fit : F → Type 0) (Le : F → F → Type 0) (point : V → F) (values : List V) (k : Known F) : Type 0 where
  pub fit : IfFact Fit k
  pub holds : (v : V) → IsIn v values → Below Le (fact (point v)) k
  pub least : (j : Known F) → IfFact Fit j → ((v : V) → IsIn v values → Below Le (fact (point v)) j) → Below Le k j

-- one value
abbrev pub limited_one : {F V : Type 0} → (V → Bool) → (V → F) → V → Known F
limited_one within point v = if within v then fact (point v) else broken

module _ {F V : Type 0} {Fit : F → Type 0} {Le : F → F → Type 0} (within : V → Bool) (point : V → F) (from : V → List V → Known F)
    (point_fit : (v : V) → within v ≡ true → Fit (point v))
    (from_is : (v : V) (vs : List V) → ((w : V) → IsIn w (v ∷ vs) → within w ≡ true) → IsKnownOf Fit Le point (v ∷ vs) (from v vs)) where
  inside : (v : V) → within v ≡ true → limited_one within point v ≡ fact (point v)
  inside v e = ap (λ b. if b then fact (point v) else broken) e

  outside : (v : V) → within v ≡ false → limited_one within point v ≡ broken
  outside v e = ap (λ b. if b then fact (point v) else broken) e

  all_inside : (v : V) (vs : List V) → list_all within (v ∷ vs) ≡ true → limited_of within from (v ∷ vs) ≡ from v vs
  all_inside v vs e = ap (λ b. if b then from v vs else broken) e

  some_outside : (v : V) (vs : List V) → list_all within (v ∷ vs) ≡ false → limited_of within from (v ∷ vs) ≡ broken
  some_outside v vs e = ap (λ b. if b then from v vs else broken) e

  one_fit : (v : V) → IfFact Fit (limited_one within point v)
  one_fit v =
      elim (cases_Bool (within v)) as (λ _. IfFact Fit (limited_one within point v)) [
        | inl e ↦ subst (IfFact Fit) (sym (inside v e)) (point_fit v e)
        | inr e ↦ subst (IfFact Fit) (sym (outside v e)) tt
      ]

  below_broken : (k : Known F) → Below Le k broken
  below_broken nothing = tt
  below_broken broken = tt
  below_broken (fact x) = tt

  fit : (vs : List V) → IfFact Fit (limited_of within from vs)
  fit [] = tt
  fit (v ∷ vs) = elim (all_or_one within (v ∷ vs)) as (λ _. IfFact Fit (limited_of within from (v ∷ vs))) [
    | inl h ↦ subst (IfFact Fit) (sym (all_inside v vs h.0)) (from_is v vs h.1).fit
    | inr h ↦ subst (IfFact Fit) (sym (some_outside v vs h.0)) tt
  ]

  holds : (w : V) (vs : List V) → IsIn w vs → Below Le (limited_one within point w) (limited_of within from vs)
  holds w [] i = absurd i
  holds w (v ∷ vs) i = elim (all_or_one within (v ∷ vs)) as (λ _. Below Le (limited_one within point w) (limited_of within from (v ∷ vs))) [
    | inl h ↦ subst (λ k. Below Le k (limited_of within from (v ∷ vs))) (sym (inside w (h.1 w i)))
        (subst (Below Le (fact (point w))) (sym (all_inside v vs h.0)) ((from_is v vs h.1).holds w i))
    | inr h ↦ subst (Below Le (limited_one within point w)) (sym (some_outside v vs h.0)) (below_broken (limited_one within point w))
  ]

  least : (vs : List V) (k : Known F) → IfFact Fit k → ((w : V) → IsIn w vs → Below Le (limited_one within point w) k) → Below Le (limited_of within from vs) k
  least [] k f a = tt
  least (v ∷ vs) k f a = elim (all_or_one within (v ∷ vs)) as (λ _. Below Le (limited_of within from (v ∷ vs)) k) [
    | inl h ↦ subst (λ j. Below Le j k) (sym (all_inside v vs h.0)) ((from_is v vs h.1).least k f (λ w i. subst (λ j. Below Le j k) (inside w (h.1 w i)) (a w i)))
    | inr h ↦ let bad = h.1 in subst (λ j. Below Le j k) (sym (some_outside v vs h.0)) (subst (λ j. Below Le j k) (outside bad.0 bad.2) (a bad.0 bad.1))
  ]

  pub limited_hull : IsHullOf Fit Le (limited_one within point) (limited_of within from)
  limited_hull = record { one_fit = one_fit; fit = fit; holds = holds; least = least }
