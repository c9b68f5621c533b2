-- Touched and freed tuples are among those that are chosen role by role.
use Rattle.std.specs.Prelude.{◌≡◌, ◌<◌, ◌+◌, ◌==◌, ◌||◌, ℕ, suc, true, false, All, Contains, List, [], ◌∷◌, cond, length, map, not, refl, replicate}
use Rattle.std.specs.List.{list_any}
use Rattle.std.proofs.Common.{ap, arith, get_or, inl, inr, subst, sym, ◌∙◌}
use Rattle.std.proofs.lemmas.Bool.{cases_Bool, eqb-true, false≢true}
use Rattle.std.proofs.lemmas.List.Elements.{All-head, All-tail}
use Rattle.std.proofs.lemmas.List.Folds.{Any-from_list_any}
use Rattle.dk_base.specs.declared.kinds.VarId.{VarId}
use Rattle.dk_classes.specs.Leaders.{own_leaders}
use Rattle.dk_instances.proofs.Members.{contained, in_filter, in_flat, in_map, is_in}
use Rattle.dk_forms.specs.Laws.{IsIn}
use Rattle.dk_template.specs.Premises.{at_role, roles_read}
use Rattle.dk_template.specs.declared.answers.Premise.{Premise}
use Rattle.dk_engine.proofs.PremiseSlots.{roles_read_the_slot}
use Rattle.dk_engine.proofs.Standing.{none_passes}
use Rattle.dk_engine.specs.Sweeps.Choices.{freed_choices, other_leaders, touched_choices, touching_leaders, tuples_from}
use Rattle.dk_engine.specs.Exact.{Lead}
use Rattle.dk_engine.specs.Feeding.Step.{is_touched, slot_vars, touches}
use Rattle.dk_engine.specs.declared.feed.now.Now.{Now}
use Rattle.dk_engine.specs.StepLaws.{FreedTuplesAreChosen, TouchedTuplesAreChosen}

-- ---- one role more
role_more : (v : VarId) (vars first : List VarId) (rest : List (List VarId)) → IsIn v first → IsIn vars (tuples_from rest) → IsIn (v ∷ vars) (tuples_from (first ∷ rest))
role_more v vars first rest here there = in_flat (λ w. map (λ ws. w ∷ ws) (tuples_from rest)) (v ∷ vars) v first (in_map (λ ws. v ∷ ws) vars (tuples_from rest) there) here

all_roles : (first : List VarId) (vars : List VarId) → All (Contains first) vars → IsIn vars (tuples_from (replicate (length vars) first))
all_roles first [] h = inl refl
all_roles first (v ∷ vars) h =
    let c = All-head (Contains first) v vars h in
    role_more v vars first (replicate (length vars) first) (is_in v first c.0 c.1 c.2) (all_roles first vars (All-tail (Contains first) v vars h))

module _ (now : Now) where
  abbrev own : List VarId
  own = own_leaders now.leaders

  other : (v : VarId) → Contains own v → touches now v ≡ false → IsIn v (other_leaders now)
  other v c e = in_filter (λ w. not (touches now w)) v own (is_in v own c.0 c.1 c.2) (ap not e)

  -- ---- touched tuples
  touched : (vars : List VarId) → Lead now.leaders vars → is_touched now vars ≡ true → (k : ℕ) × (k < length vars) × IsIn vars (tuples_from (touched_choices now k (length vars)))
  touched [] lead h = absurd (false≢true h)
  touched (v ∷ vars) lead h =
      let c = All-head (Contains own) v vars lead in
      let rest = All-tail (Contains own) v vars lead in
      elim (cases_Bool (touches now v)) [
        | inl e ↦ (0, omega arith, role_more v vars (touching_leaders now) (replicate (length vars) own) (in_filter (touches now) v own (is_in v own c.0 c.1 c.2) e) (all_roles own vars rest))
        | inr e ↦
            let more = touched vars rest (ap (λ b. b || is_touched now vars) (sym e) ∙ h) in
            let l = more.1 in
            (suc more.0, omega (arith, l), role_more v vars (other_leaders now) (touched_choices now more.0 (length vars)) (other v c e) more.2)
      ]

  -- ---- freed tuples
  freed : (p : Premise) (lost : List VarId) (k : ℕ) (vars : List VarId) → All (λ v. IsIn v (other_leaders now)) vars
      → ((j : ℕ) → j < length vars → list_any (λ role. role == k + j) (roles_read p) ≡ true → IsIn (at_role j vars) lost) → IsIn vars (tuples_from (freed_choices now p lost k (length vars)))
  freed p lost k [] old read = inl refl
  freed p lost k (v ∷ vars) old read =
      let Other : VarId → Type 0 = λ w. IsIn w (other_leaders now) in
      let is_read = list_any (λ role. role == k) (roles_read p) in
      let here : IsIn v (cond is_read lost (other_leaders now)) = elim (cases_Bool is_read) [
        | inl e ↦ subst (λ b. IsIn v (cond b lost (other_leaders now))) (sym e) (read 0 (omega arith) (ap (λ n. list_any (λ role. role == n) (roles_read p)) (zero_more k) ∙ e))
        | inr e ↦ subst (λ b. IsIn v (cond b lost (other_leaders now))) (sym e) (All-head Other v vars old)
      ] in
      role_more v vars (cond is_read lost (other_leaders now)) (freed_choices now p lost (k + 1) (length vars)) here (freed p lost (k + 1) vars (All-tail Other v vars old) (λ j l e.
      read (suc j) (omega (arith, l)) (ap (λ n. list_any (λ role. role == n) (roles_read p)) (one_more k j) ∙ e)))
    where
      zero_more : (k : ℕ) → k + 0 ≡ k
      zero_more k = omega arith

      one_more : (k j : ℕ) → k + suc j ≡ k + 1 + j
      one_more k j = omega arith

pub touched_tuples_are_chosen : TouchedTuplesAreChosen
touched_tuples_are_chosen now vars lead h = let found = touched now vars lead h in (found.0, found.1, contained vars (tuples_from (touched_choices now found.0 (length vars))) found.2)

pub freed_tuples_are_chosen : FreedTuplesAreChosen
freed_tuples_are_chosen now vars lead untouched p =
    let old = none_passes (touches now) vars untouched in
    contained vars (tuples_from (freed_choices now p (slot_vars p vars) 0 (length vars)))
    (freed now p (slot_vars p vars) 0 vars (λ i d l. other now (get_or vars i d) (lead i d l) (old i d l)) (λ j l e.
    let found = Any-from_list_any (λ role. role == 0 + j) (roles_read p) e in
    let is : found.1 ≡ j = eqb-true found.1 (0 + j) found.4 ∙ omega arith in
    let c = roles_read_the_slot p vars j (subst (Contains (roles_read p)) is (found.0, found.2, found.3)) in
    is_in (at_role j vars) (slot_vars p vars) c.0 c.1 c.2))
