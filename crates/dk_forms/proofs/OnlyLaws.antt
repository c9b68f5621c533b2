-- The laws of the one value of a list.
use Rattle.std.specs.Prelude.{◌≡◌, Bool, true, false, ◌&&◌, if◌then◌else◌, List, [], ◌∷◌, ◌⊎◌, refl}
use Rattle.std.specs.Bool.{Decides}
use Rattle.std.specs.List.{list_all}
use Rattle.std.proofs.Common.{sym, ap, ◌∙◌, inl, inr}
use Rattle.std.proofs.lemmas.Bool.{cases_Bool}
use Rattle.std.proofs.lemmas.Bool.Decides.{not_from_Decides}
use Rattle.dk_forms.specs.Known.{Known, nothing, broken, fact, both, IfFact}
use Rattle.dk_forms.specs.Known.Only.{only_of, only_meet}
use Rattle.dk_forms.proofs.Knowns.{MeetLaws}

module _ {V : Type 0} (same : V → V → Bool) (decides : (x y : V) → Decides (same x y) (x ≡ y)) where
  Any : V → Type 0
  Any v = Unit {0}

  -- the two are one value, or not
  which : (x y : V) → ((x ≡ y) × (same x y ≡ true)) ⊎ ((same x y ≡ false) × (x ≡ y → ⊥))
  which x y =
      elim (cases_Bool (same x y)) as (λ _. ((x ≡ y) × (same x y ≡ true)) ⊎ ((same x y ≡ false) × (x ≡ y → ⊥))) [
        | inl e ↦ inl ((decides x y).0 e, e)
        | inr e ↦ inr (e, not_from_Decides (same x y) (decides x y) e)
      ]

  pub meet-one : (x y : V) → same x y ≡ true → only_meet same x y ≡ fact x
  meet-one x y e = ap (λ b. if b then fact x else broken) e

  pub meet-two : (x y : V) → same x y ≡ false → only_meet same x y ≡ broken
  meet-two x y e = ap (λ b. if b then fact x else broken) e

  itself : (x : V) → same x x ≡ true
  itself x = (decides x x).1 refl

  differ : (x y : V) → (x ≡ y → ⊥) → same x y ≡ false
  differ x y ne = elim (which x y) as (λ _. same x y ≡ false) [ inl h ↦ absurd (ne h.0) | inr h ↦ h.0 ]

  any : (k : Known V) → IfFact (λ (v : V). Unit {0}) k
  any nothing = tt
  any broken = tt
  any (fact v) = tt

  assoc : (x y z : V) → both (only_meet same) (only_meet same x y) (fact z) ≡ both (only_meet same) (fact x) (only_meet same y z)
  assoc x y z =
      elim (which x y) as (λ _. both (only_meet same) (only_meet same x y) (fact z) ≡ both (only_meet same) (fact x) (only_meet same y z)) [
        | inl h ↦ ap (λ k. both (only_meet same) k (fact z)) (meet-one x y h.1)
            ∙ elim (which y z) as (λ _. only_meet same x z ≡ both (only_meet same) (fact x) (only_meet same y z)) [
              | inl k ↦ meet-one x z ((decides x z).1 (h.0 ∙ k.0)) ∙ sym (ap (both (only_meet same) (fact x)) (meet-one y z k.1) ∙ meet-one x y h.1)
              | inr k ↦ meet-two x z (differ x z (λ e. k.1 (sym h.0 ∙ e))) ∙ sym (ap (both (only_meet same) (fact x)) (meet-two y z k.0))
            ]
        | inr h ↦ ap (λ k. both (only_meet same) k (fact z)) (meet-two x y h.0)
            ∙ elim (which y z) as (λ _. broken ≡ both (only_meet same) (fact x) (only_meet same y z)) [
              | inl k ↦ sym (ap (both (only_meet same) (fact x)) (meet-one y z k.1) ∙ meet-two x y h.0)
              | inr k ↦ sym (ap (both (only_meet same) (fact x)) (meet-two y z k.0))
            ]
      ]

  comm : (x y : V) → only_meet same x y ≡ only_meet same y x
  comm x y =
      elim (which x y) as (λ _. only_meet same x y ≡ only_meet same y x) [
        | inl h ↦ meet-one x y h.1 ∙ ap fact h.0 ∙ sym (meet-one y x ((decides y x).1 (sym h.0)))
        | inr h ↦ meet-two x y h.0 ∙ sym (meet-two y x (differ y x (λ e. h.1 (sym e))))
      ]

  pub only_laws : MeetLaws (λ (v : V). Unit {0}) (only_meet same)
  only_laws = record {
    closed = λ x y p q. any (only_meet same x y);
    assoc = λ x y z p q r. assoc x y z;
    comm = λ x y p q. comm x y;
    idem = λ x p. meet-one x x (itself x);
  }

  -- a value that is the first one changes nothing, another one breaks
  step : (x y : V) (k : Bool) → (if (same x y && k) then fact x else broken) ≡ both (only_meet same) (fact x) (if k then fact y else broken)
  step x y true = elim (which x y) as (λ _. (if (same x y && true) then fact x else broken) ≡ only_meet same x y) [
    | inl h ↦ ap (λ b. if (b && true) then fact x else broken) h.1 ∙ sym (meet-one x y h.1)
    | inr h ↦ ap (λ b. if (b && true) then fact x else broken) h.0 ∙ sym (meet-two x y h.0)
  ]
  step x y false = elim (same x y) as (λ b. (if (b && false) then fact x else broken) ≡ broken) [ true ↦ refl | false ↦ refl ]

  pub only_step : (x y : V) (k l : Bool) → (same x y ≡ true → k ≡ l) → (if (same x y && k) then fact x else broken) ≡ both (only_meet same) (fact x) (if l then fact y else broken)
  only_step x y k l h =
      elim (which x y) as (λ _. (if (same x y && k) then fact x else broken) ≡ both (only_meet same) (fact x) (if l then fact y else broken)) [
        | inl e ↦ ap (λ b. if (same x y && b) then fact x else broken) (h e.1) ∙ step x y l
        | inr e ↦ ap (λ b. if (b && k) then fact x else broken) e.0 ∙ ap (λ b. if (b && l) then fact x else broken) (sym e.0) ∙ step x y l
      ]

  pub only_of_more : (x : V) (xs : List V) → only_of same (x ∷ xs) ≡ both (only_meet same) (only_of same (x ∷ [])) (only_of same xs)
  only_of_more x [] = refl
  only_of_more x (y ∷ ys) = only_step x y (list_all (same x) ys) (list_all (same y) ys) (λ e. ap (λ v. list_all (same v) ys) ((decides x y).0 e))
