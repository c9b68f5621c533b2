-- The laws of the form plane.
use Rattle.std.specs.Prelude.{[], ◌≡◌, ℤ, List, ◌∷◌, true, if◌then◌else◌, refl}
use Rattle.std.proofs.Common.{sym, ap, ◌∙◌}
use Rattle.dk_forms.specs.Plane.{Flat, IsPlaneState, in_space, plane, plane_join, plane_known, plane_known_of, plane_meet, plane_of, plane_state, span}
use Rattle.dk_forms.specs.Known.{IfFact, Known, both, broken, fact, nothing}
use Rattle.dk_forms.proofs.PlaneFacts.{IsPlaneFact, plane_hull, plane_known_of_is, plane_of_point}
use Rattle.dk_forms.specs.Laws.{JoinLaws, SummaryLaws}
use Rattle.dk_forms.proofs.Order.{laws_of_hull, more_of_hull}
use Rattle.dk_forms.proofs.Knowns.{laws_of_states}
use Rattle.dk_forms.proofs.Summaries.{summary_from}
use Rattle.dk_forms.specs.declared.states.State.{State}
use Rattle.dk_forms.specs.declared.states.State.TheVariants.{Empty, Broken, Span, Plane}

plane_fits : (s : State) → IsPlaneState s → IfFact IsPlaneFact (plane_known s)
plane_fits Empty p = tt
plane_fits (Span x1 y1 z1 x2 y2 z2) p = p
plane_fits (Plane a b c d) p = p
plane_fits _ p = tt

plane_back : (s : State) → IsPlaneState s → plane_state (plane_known s) ≡ s
plane_back Empty p = refl
plane_back Broken p = refl
plane_back (Span x1 y1 z1 x2 y2 z2) p = refl
plane_back (Plane a b c d) p = refl
plane_back _ p = absurd p

plane_proper : (k : Known Flat) → IfFact IsPlaneFact k → IsPlaneState (plane_state k)
plane_proper nothing p = tt
plane_proper broken p = tt
plane_proper (fact (span s)) p = p
plane_proper (fact (plane n)) p = p

plane_again : (k : Known Flat) → IfFact IsPlaneFact k → plane_known (plane_state k) ≡ k
plane_again nothing p = refl
plane_again broken p = refl
plane_again (fact (span s)) p = refl
plane_again (fact (plane n)) p = refl

pub plane_laws : JoinLaws IsPlaneState Empty Broken plane_join
plane_laws = laws_of_states IsPlaneState IsPlaneFact plane_known plane_state plane_fits plane_back plane_proper plane_again refl refl (laws_of_hull plane_hull)

plane_more : (v : ℤ × ℤ × ℤ) (vs : List (ℤ × ℤ × ℤ)) → plane_of (v ∷ vs) ≡ plane_join (plane_of (v ∷ [])) (plane_of vs)
plane_more v vs =
    let k = plane_known_of_is in
    ap plane_state (more_of_hull plane_hull k v vs)
    ∙ sym (ap (λ a. plane_state (both plane_meet a (plane_known (plane_of vs)))) (plane_again _ (k.fit (v ∷ [])))
    ∙ ap (λ b. plane_state (both plane_meet (plane_known_of (v ∷ [])) b)) (plane_again _ (k.fit vs)))

pub plane_summary : SummaryLaws IsPlaneState Empty plane_join plane_of
plane_summary = summary_from plane_laws (record { none = refl; one = λ v. plane_proper _ (plane_known_of_is.fit (v ∷ [])); more = plane_more })

pub plane_of_one : (p : ℤ × ℤ × ℤ) → in_space p ≡ true → plane_of (p ∷ []) ≡ plane_state (fact (span (p, p)))
plane_of_one p e = ap plane_state (plane_of_point p) ∙ ap (λ b. plane_state (if b then fact (span (p, p)) else broken)) e
