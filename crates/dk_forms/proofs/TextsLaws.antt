-- The laws of the form few texts.
use Rattle.std.specs.Prelude.{[], ◌≡◌, ℕ, List, ◌∷◌, refl}
use Rattle.std.proofs.Common.{sym, ap, ◌∙◌, arith}
use Rattle.std.specs.Ordering.{nat_cmp}
use Rattle.std.specs.Cmp.Lexicographic.{slice_cmp, nat_list_cmp_total}
use Rattle.std.specs.FinMap.{nat_cmp-IsAntisymmetric, slice_cmp-IsAntisymmetric}
use Rattle.dk_forms.proofs.DistinctLaws.{few_laws, few_more, few_one, put-nil}
use Rattle.dk_forms.specs.Known.{IfFact, Known, both, broken, fact, nothing}
use Rattle.dk_forms.specs.Known.Distinct.{at_most, IsFew, few_meet, few_of}
use Rattle.dk_forms.specs.Texts.{IsTextsState, texts_join, texts_known, texts_of, texts_state}
use Rattle.dk_forms.specs.Laws.{JoinLaws, SummaryLaws}
use Rattle.dk_forms.proofs.Knowns.{laws_of_states}
use Rattle.dk_forms.proofs.Summaries.{summary_from}
use Rattle.dk_forms.specs.declared.states.State.{State}
use Rattle.dk_forms.specs.declared.states.State.TheVariants.{Empty, Broken, Texts}

-- ---- texts
texts_fits : (s : State) → IsTextsState s → IfFact (IsFew (slice_cmp nat_cmp) 3) (texts_known s)
texts_fits Empty p = tt
texts_fits Broken p = tt
texts_fits (Texts k) p = p
texts_fits _ p = tt

texts_back : (s : State) → IsTextsState s → texts_state (texts_known s) ≡ s
texts_back Empty p = refl
texts_back Broken p = refl
texts_back (Texts k) p = refl
texts_back _ p = absurd p

texts_proper : (k : Known (List (List ℕ))) → IfFact (IsFew (slice_cmp nat_cmp) 3) k → IsTextsState (texts_state k)
texts_proper nothing p = tt
texts_proper broken p = tt
texts_proper (fact u) p = p

texts_again : (k : Known (List (List ℕ))) → IfFact (IsFew (slice_cmp nat_cmp) 3) k → texts_known (texts_state k) ≡ k
texts_again nothing p = refl
texts_again broken p = refl
texts_again (fact u) p = refl

pub texts_laws : JoinLaws IsTextsState Empty Broken texts_join
texts_laws = laws_of_states IsTextsState (IsFew (slice_cmp nat_cmp) 3) texts_known texts_state texts_fits texts_back texts_proper texts_again refl refl (few_laws nat_list_cmp_total (slice_cmp-IsAntisymmetric nat_cmp-IsAntisymmetric) 3)

known-texts_of : (v : (List ℕ)) (vs : List (List ℕ)) → texts_of (v ∷ vs) ≡ texts_join (texts_of (v ∷ [])) (texts_of vs)
known-texts_of v vs =
    let one = few_one nat_list_cmp_total (slice_cmp-IsAntisymmetric nat_cmp-IsAntisymmetric) 3 (omega arith) v in
    ap texts_state (few_more nat_list_cmp_total (slice_cmp-IsAntisymmetric nat_cmp-IsAntisymmetric) 3 (omega arith) v vs)
    ∙ sym (ap (λ k. texts_state (both (few_meet (slice_cmp nat_cmp) 3) k (texts_known (texts_of vs)))) (texts_again _ one)
    ∙ ap (λ k. texts_state (both (few_meet (slice_cmp nat_cmp) 3) (few_of (slice_cmp nat_cmp) 3 (v ∷ [])) k)) (again vs))
  where
    again : (ws : List (List ℕ)) → texts_known (texts_state (few_of (slice_cmp nat_cmp) 3 ws)) ≡ few_of (slice_cmp nat_cmp) 3 ws
    again ws = elim (few_of (slice_cmp nat_cmp) 3 ws) as (λ k. texts_known (texts_state k) ≡ k) [ nothing ↦ refl | broken ↦ refl | fact u ↦ refl ]

pub texts_summary : SummaryLaws IsTextsState Empty texts_join texts_of
texts_summary = summary_from texts_laws (record { none = refl; one = λ v. texts_proper _ (few_one nat_list_cmp_total (slice_cmp-IsAntisymmetric nat_cmp-IsAntisymmetric) 3 (omega arith) v); more = known-texts_of })

pub texts_of-one : (v : List ℕ) → texts_of (v ∷ []) ≡ Texts (v ∷ [])
texts_of-one v = ap (λ s. texts_state (at_most (slice_cmp nat_cmp) 3 s)) (put-nil nat_list_cmp_total (slice_cmp-IsAntisymmetric nat_cmp-IsAntisymmetric) v)
