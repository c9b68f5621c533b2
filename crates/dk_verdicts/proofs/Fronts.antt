-- Fronts of records, and the first of them that violate what is asserted.
use Rattle.std.specs.Prelude.{◌≡◌, ◌⊎◌, ◌++◌, ◌∷◌, ℕ, List, [], refl}
use Rattle.std.proofs.Common.{◌∙◌, ⊎_elim, ap, append_assoc, inl, inr, subst, sym}
use Rattle.std.proofs.lemmas.Grind.{flat_map-append}
use Rattle.std.proofs.lemmas.List.{append-nil}
use Rattle.dk_base.specs.declared.values.Value.{Value}
use Rattle.dk_expr.specs.declared.assertions.Assertion.{Assertion}
use Rattle.dk_verdicts.specs.Records.{Record, reaching, reaching_all}
use Rattle.dk_verdicts.specs.Verdicts.{IsFirstViolation, IsNeverViolated, Violates}

-- ---- lists
-- a front of a list with one element more is one of the list, or all
front_of_more : {X : Type 0} (xs : List X) (x : X) (front behind : List X) → xs ++ x ∷ [] ≡ front ++ behind
    → ((rest : List X) × (xs ≡ front ++ rest)) ⊎ (front ≡ xs ++ x ∷ [])
front_of_more xs x [] behind e = inl (xs, refl)
front_of_more [] x (y ∷ []) behind e = inr (cc)
front_of_more [] x (y ∷ z ∷ front) behind e = absurd (cc e)
front_of_more {X = X} (w ∷ xs) x (y ∷ front) behind e =
    let heads : w ≡ y = cc in
    let tails : xs ++ x ∷ [] ≡ front ++ behind = cc in
    ⊎_elim
    (λ (m : (rest : List X) × (xs ≡ front ++ rest)). inl (m.0, (λ i. heads i ∷ m.1 i)))
    (λ (same : front ≡ xs ++ x ∷ []). inr (λ i. sym heads i ∷ same i))
    (front_of_more xs x front behind tails)

front_of_none : {X : Type 0} (front behind : List X) → front ++ behind ≡ [] → front ≡ []
front_of_none [] behind e = refl
front_of_none (x ∷ front) behind e = absurd (cc e)

-- Of two elements of a list one stands in front of the other, with what stands in front of it, or they are one.
two_places : {X : Type 0} (before other : List X) (x y : X) (behind past : List X) → before ++ x ∷ behind ≡ other ++ y ∷ past
    → ((rest : List X) × (other ≡ (before ++ x ∷ []) ++ rest)) ⊎ (((rest : List X) × (before ≡ (other ++ y ∷ []) ++ rest)) ⊎ (x ≡ y))
two_places [] [] x y behind past e = inr (inr (cc))
two_places [] (z ∷ other) x y behind past e =
    let same : z ≡ x = cc in
    inl (other, (λ i. same i ∷ other))
two_places (z ∷ before) [] x y behind past e =
    let same : z ≡ y = cc in
    inr (inl (before, (λ i. same i ∷ before)))
two_places {X = X} (z ∷ before) (w ∷ other) x y behind past e =
    let heads : z ≡ w = cc in
    let tails : before ++ x ∷ behind ≡ other ++ y ∷ past = cc in
    ⊎_elim
    (λ (m : (rest : List X) × (other ≡ (before ++ x ∷ []) ++ rest)). inl (m.0, (λ i. sym heads i ∷ m.1 i)))
    (⊎_elim
    (λ (m : (rest : List X) × (before ≡ (other ++ y ∷ []) ++ rest)). inr (inl (m.0, (λ i. heads i ∷ m.1 i))))
    (λ (same : x ≡ y). inr (inr same)))
    (two_places before other x y behind past tails)

-- ---- records
module _ (a : Assertion) (q : ℕ) where
  -- not by all records either
  pub upheld_by_all : (rs : List Record) → IsNeverViolated a q rs → ¬ Violates a (reaching_all q rs)
  upheld_by_all rs never = never rs [] (sym (append-nil rs))

  -- one record more, with which it isn't violated
  pub never_with_more : (rs : List Record) (r : Record) → IsNeverViolated a q rs → ¬ Violates a (reaching_all q (rs ++ r ∷ [])) → IsNeverViolated a q (rs ++ r ∷ [])
  never_with_more rs r never not front behind e = ⊎_elim
      (λ (m : (rest : List Record) × (rs ≡ front ++ rest)). never front m.0 m.1)
      (λ (same : front ≡ rs ++ r ∷ []). subst (λ (l : List Record). ¬ Violates a (reaching_all q l)) (sym same) not)
      (front_of_more rs r front behind e)

  -- records that don't reach the point
  pub never_without : (rs : List Record) → reaching_all q rs ≡ [] → ¬ Violates a [] → IsNeverViolated a q rs
  never_without rs none not front behind e =
      let empty : reaching_all q front ≡ [] =
      front_of_none (reaching_all q front) (reaching_all q behind) (sym (flat_map-append (reaching q) front behind) ∙ ap (reaching_all q) (sym e) ∙ none) in
      subst (λ (s : List (List Value)). ¬ Violates a s) (sym empty) not

  pub never_or_first : (rs : List Record) (r : Record) → IsNeverViolated a q rs → IsFirstViolation a q rs r → ⊥
  never_or_first rs r never x = never (x.before ++ r ∷ []) x.behind (x.is_one ∙ sym (append_assoc x.before (r ∷ []) x.behind)) x.violated

  pub one_first : (rs : List Record) (r s : Record) → IsFirstViolation a q rs r → IsFirstViolation a q rs s → r ≡ s
  one_first rs r s x y = ⊎_elim
      (λ (m : (rest : List Record) × (y.before ≡ (x.before ++ r ∷ []) ++ rest)). absurd (y.first (x.before ++ r ∷ []) m.0 m.1 x.violated))
      (⊎_elim
      (λ (m : (rest : List Record) × (x.before ≡ (y.before ++ s ∷ []) ++ rest)). absurd (x.first (y.before ++ s ∷ []) m.0 m.1 y.violated))
      (λ (same : r ≡ s). same))
      (two_places x.before y.before r s x.behind y.behind (sym x.is_one ∙ y.is_one))
