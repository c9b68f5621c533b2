-- The laws of the form few integers.
use Rattle.std.specs.Prelude.{[], ◌≡◌, ℤ, List, ◌∷◌, refl}
use Rattle.std.proofs.Common.{sym, ap, ◌∙◌, arith}
use Rattle.std.specs.Ordering.{int_cmp}
use Rattle.std.specs.FinMap.{int_cmp-IsAntisymmetric}
use Rattle.std.proofs.lemmas.Cmp.{int_cmp_total}
use Rattle.dk_forms.proofs.DistinctLaws.{few_laws, few_more, few_one}
use Rattle.dk_forms.specs.Known.{IfFact, Known, both, broken, fact, nothing}
use Rattle.dk_forms.specs.Known.Distinct.{IsFew, few_meet, few_of}
use Rattle.dk_forms.specs.Ints.{IsIntsState, ints_join, ints_known, ints_of, ints_state}
use Rattle.dk_forms.specs.Laws.{JoinLaws, SummaryLaws}
use Rattle.dk_forms.proofs.Knowns.{laws_of_states}
use Rattle.dk_forms.proofs.Summaries.{summary_from}
use Rattle.dk_forms.specs.declared.states.State.{State}
use Rattle.dk_forms.specs.declared.states.State.TheVariants.{Empty, Broken, Ints}

-- ---- ints
ints_fits : (s : State) → IsIntsState s → IfFact (IsFew int_cmp 3) (ints_known s)
ints_fits Empty p = tt
ints_fits Broken p = tt
ints_fits (Ints k) p = p
ints_fits _ p = tt

ints_back : (s : State) → IsIntsState s → ints_state (ints_known s) ≡ s
ints_back Empty p = refl
ints_back Broken p = refl
ints_back (Ints k) p = refl
ints_back _ p = absurd p

ints_proper : (k : Known (List ℤ)) → IfFact (IsFew int_cmp 3) k → IsIntsState (ints_state k)
ints_proper nothing p = tt
ints_proper broken p = tt
ints_proper (fact u) p = p

ints_again : (k : Known (List ℤ)) → IfFact (IsFew int_cmp 3) k → ints_known (ints_state k) ≡ k
ints_again nothing p = refl
ints_again broken p = refl
ints_again (fact u) p = refl

pub ints_laws : JoinLaws IsIntsState Empty Broken ints_join
ints_laws = laws_of_states IsIntsState (IsFew int_cmp 3) ints_known ints_state ints_fits ints_back ints_proper ints_again refl refl (few_laws int_cmp_total int_cmp-IsAntisymmetric 3)

known-ints_of : (v : ℤ) (vs : List ℤ) → ints_of (v ∷ vs) ≡ ints_join (ints_of (v ∷ [])) (ints_of vs)
known-ints_of v vs =
    let one = few_one int_cmp_total int_cmp-IsAntisymmetric 3 (omega arith) v in
    ap ints_state (few_more int_cmp_total int_cmp-IsAntisymmetric 3 (omega arith) v vs)
    ∙ sym (ap (λ k. ints_state (both (few_meet int_cmp 3) k (ints_known (ints_of vs)))) (ints_again _ one)
    ∙ ap (λ k. ints_state (both (few_meet int_cmp 3) (few_of int_cmp 3 (v ∷ [])) k)) (again vs))
  where
    again : (ws : List ℤ) → ints_known (ints_state (few_of int_cmp 3 ws)) ≡ few_of int_cmp 3 ws
    again ws = elim (few_of int_cmp 3 ws) as (λ k. ints_known (ints_state k) ≡ k) [ nothing ↦ refl | broken ↦ refl | fact u ↦ refl ]

pub ints_summary : SummaryLaws IsIntsState Empty ints_join ints_of
ints_summary = summary_from ints_laws (record { none = refl; one = λ v. ints_proper _ (few_one int_cmp_total int_cmp-IsAntisymmetric 3 (omega arith) v); more = known-ints_of })
