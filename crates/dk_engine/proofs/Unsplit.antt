-- Own leaders ascend, and where no class splits they stay.
use Rattle.std.specs.Prelude.{◌≡◌, ◌<◌, ◌≤◌, ◌+◌, ◌==◌, ℕ, Bool, true, All, Contains, List, [], ◌∷◌, cond, filter, map, refl}
use Rattle.std.specs.List.{AllPairs, enumerate_from}
use Rattle.std.proofs.Common.{ap, arith, inl, inr, subst, sym, ◌∙◌}
use Rattle.std.proofs.lemmas.Bool.{cases_Bool, eq-eqb, eqb-true, true≢false}
use Rattle.std.proofs.lemmas.List.Elements.{All-cons, All-nil, All-weaker}
use Rattle.std.proofs.lemmas.List.Folds.{Any-from_list_any, list_any_at}
use Rattle.std.proofs.lemmas.List.Kept.{AllPairs-cons}
use Rattle.dk_base.specs.declared.kinds.VarId.{VarId}
use Rattle.dk_classes.specs.Leaders.{own_leaders}
use Rattle.dk_presence.proofs.Sameness.{same_ascending, same_id}
use Rattle.dk_presence.specs.Patterns.{has}
use Rattle.dk_samples.specs.Leaders.{VarsAscend}
use Rattle.dk_engine.proofs.Standing.{led_before, leads_on}
use Rattle.dk_engine.specs.Feeding.Step.{is_new}
use Rattle.dk_engine.specs.StepLaws.{OwnLeadersAscend, UnsplitLeadersStay}

-- ---- own leaders ascend
-- the own leaders of a list that begins at the variable n
abbrev own_from : ℕ → List VarId → List VarId
own_from n xs = map (λ (p : ℕ × VarId). p.1) (filter (λ p. p.1.0 == p.0) (enumerate_from n xs))

-- the same of a list with one variable more in front, which is its own leader or not
abbrev own_with : Bool → ℕ → VarId → List VarId → List VarId
own_with b n x xs =
    let rest = filter (λ (p : ℕ × VarId). p.1.0 == p.0) (enumerate_from (n + 1) xs) in
    map (λ (p : ℕ × VarId). p.1) (cond b ((n, x) ∷ rest) rest)

from_on : (n : ℕ) (xs : List VarId) → All (λ (v : VarId). n ≤ v.0) (own_from n xs)
from_on n [] = All-nil (λ (v : VarId). n ≤ v.0)
from_on n (x ∷ xs) =
    let P : VarId → Type 0 = λ v. n ≤ v.0 in
    let rest = All-weaker (λ (v : VarId). n + 1 ≤ v.0) P (λ v l. omega (arith, l)) (own_from (n + 1) xs) (from_on (n + 1) xs) in
    elim (cases_Bool (x.0 == n)) [
      | inl e ↦
          let own = eqb-true x.0 n e in
          subst (λ b. All P (own_with b n x xs)) (sym e)
          (All-cons P x (own_from (n + 1) xs) (omega (arith, own)) rest)
      | inr e ↦ subst (λ b. All P (own_with b n x xs)) (sym e) rest
    ]

ascend_from : (n : ℕ) (xs : List VarId) → VarsAscend (own_from n xs)
ascend_from n [] = λ i j d l m. absurd (omega (arith, m))
ascend_from n (x ∷ xs) =
    let R : VarId → VarId → Type 0 = λ v w. v.0 < w.0 in
    let rest = ascend_from (n + 1) xs in
    elim (cases_Bool (x.0 == n)) [
      | inl e ↦
          let own = eqb-true x.0 n e in
          subst (λ b. AllPairs R (own_with b n x xs)) (sym e)
          (AllPairs-cons R x (own_from (n + 1) xs) (All-weaker (λ (v : VarId). n + 1 ≤ v.0) (R x) (λ v l. omega (arith, l, own)) (own_from (n + 1) xs) (from_on (n + 1) xs)) rest)
      | inr e ↦ subst (λ b. AllPairs R (own_with b n x xs)) (sym e) rest
    ]

pub own_leaders_ascend : OwnLeadersAscend
own_leaders_ascend leaders = ascend_from 0 leaders

-- ---- no new leader
has_contained : (vars : List VarId) (v : VarId) → Contains vars v → has vars v ≡ true
has_contained vars v c = list_any_at (λ (w : VarId). w.0 == v.0) vars c.0 v c.1 (ap (λ (w : VarId). w.0 == v.0) c.2 ∙ eq-eqb v.0 v.0 refl)

contained_has : (vars : List VarId) (v : VarId) → has vars v ≡ true → Contains vars v
contained_has vars v h =
    let found = Any-from_list_any (λ (w : VarId). w.0 == v.0) vars h in
    subst (Contains vars) (same_id found.1 v found.4) (found.0, found.2, found.3)

-- lists of which each has what the other has
has_alike : (vars others : List VarId) → ((v : VarId) → Contains vars v → Contains others v) → ((v : VarId) → Contains others v → Contains vars v) → (v : VarId) → has vars v ≡ has others v
has_alike vars others to from v = elim (cases_Bool (has vars v)) [
  | inl h ↦ h ∙ sym (has_contained others v (to v (contained_has vars v h)))
  | inr n ↦ elim (cases_Bool (has others v)) [
    | inl k ↦ absurd (true≢false (sym (has_contained vars v (from v (contained_has others v k))) ∙ n))
    | inr k ↦ n ∙ sym k
  ]
]

pub unsplit_leaders_stay : UnsplitLeadersStay
unsplit_leaders_stay grammar infos samples sample kept now step unsplit =
    same_ascending (own_leaders now.leaders) (own_leaders kept.leaders) (own_leaders_ascend now.leaders) (own_leaders_ascend kept.leaders)
    (has_alike (own_leaders now.leaders) (own_leaders kept.leaders) (λ v leads. led_before step v leads (ap (λ new. is_new new v) unsplit)) (λ v leads. leads_on step v leads))
