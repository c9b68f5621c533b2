-- The laws of the form offset.
use Rattle.std.specs.Prelude.{◌≡◌, ℤ, List, [], ◌∷◌, Option, Some, None, refl}
use Rattle.std.specs.Ordering.{int_eq}
use Rattle.std.specs.List.{list_all}
use Rattle.std.proofs.Common.{sym, ap, ◌∙◌}
use Rattle.std.proofs.lemmas.Bool.Decides.{Decides-int_eq}
use Rattle.dk_forms.specs.Known.{Known, nothing, broken, fact, both, IfFact}
use Rattle.dk_forms.specs.Laws.{JoinLaws, SummaryLaws}
use Rattle.dk_forms.specs.Known.Only.{only_meet}
use Rattle.dk_forms.specs.Offset.{is_difference, IsOffsetState, offset_known_of, offset_known, offset_state, offset_join, offset_of}
use Rattle.dk_forms.proofs.Summaries.{summary_from}
use Rattle.dk_forms.proofs.Knowns.{laws_of_states}
use Rattle.dk_forms.proofs.OnlyLaws.{only_laws, only_step}
use Rattle.dk_forms.specs.declared.states.State.{State}
use Rattle.dk_forms.specs.declared.states.State.TheVariants.{Empty, Broken, Offset}

offset_fits : (s : State) → IsOffsetState s → IfFact (λ (x : ℤ). Unit {0}) (offset_known s)
offset_fits Empty p = tt
offset_fits (Offset k) p = tt
offset_fits _ p = tt

offset_back : (s : State) → IsOffsetState s → offset_state (offset_known s) ≡ s
offset_back Empty p = refl
offset_back Broken p = refl
offset_back (Offset k) p = refl
offset_back _ p = absurd p

offset_proper : (k : Known ℤ) → IfFact (λ (x : ℤ). Unit {0}) k → IsOffsetState (offset_state k)
offset_proper nothing p = tt
offset_proper broken p = tt
offset_proper (fact k) p = tt

offset_again : (k : Known ℤ) → offset_known (offset_state k) ≡ k
offset_again nothing = refl
offset_again broken = refl
offset_again (fact k) = refl

pub offset_laws : JoinLaws IsOffsetState Empty Broken offset_join
offset_laws = laws_of_states IsOffsetState (λ (x : ℤ). Unit {0}) offset_known offset_state offset_fits offset_back offset_proper (λ k p. offset_again k) refl refl (only_laws int_eq Decides-int_eq)

known_more : (d : Option ℤ) (ds : List (Option ℤ)) → offset_known_of (d ∷ ds) ≡ both (only_meet int_eq) (offset_known_of (d ∷ [])) (offset_known_of ds)
known_more None ds = refl
known_more (Some k) [] = refl
known_more (Some k) (None ∷ ds) = refl
known_more (Some k) (Some l ∷ ds) =
    only_step int_eq Decides-int_eq k l (list_all (is_difference k) ds) (list_all (is_difference l) ds) (λ e. ap (λ v. list_all (is_difference v) ds) ((Decides-int_eq k l).0 e))

offset_one : (d : Option ℤ) → IsOffsetState (offset_of (d ∷ []))
offset_one None = tt
offset_one (Some k) = tt

offset_more : (d : Option ℤ) (ds : List (Option ℤ)) → offset_of (d ∷ ds) ≡ offset_join (offset_of (d ∷ [])) (offset_of ds)
offset_more d ds =
    ap offset_state (known_more d ds ∙ sym (ap (λ k. both (only_meet int_eq) k (offset_known (offset_of ds))) (offset_again (offset_known_of (d ∷ [])))
    ∙ ap (both (only_meet int_eq) (offset_known_of (d ∷ []))) (offset_again (offset_known_of ds))))

pub offset_summary : SummaryLaws IsOffsetState Empty offset_join offset_of
offset_summary = summary_from offset_laws (record { none = refl; one = offset_one; more = offset_more })

pub offset_of_proper : (ds : List (Option ℤ)) → IsOffsetState (offset_of ds)
offset_of_proper ds = offset_summary.proper ds
