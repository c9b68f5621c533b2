-- The laws of the form line.
use Rattle.std.specs.Prelude.{[], ◌≡◌, ℤ, List, ◌∷◌, refl}
use Rattle.std.proofs.Common.{sym, ap, ◌∙◌}
use Rattle.dk_forms.specs.Known.{IfFact, Known, both, broken, fact, nothing}
use Rattle.dk_forms.proofs.LineFacts.{IsLine, line_hull, line_known_of_is}
use Rattle.dk_forms.specs.Plane.Line.{IsLineState, Line, line_join, line_known, line_known_of, line_meet, line_of, line_state, spot, straight}
use Rattle.dk_forms.specs.Laws.{JoinLaws, SummaryLaws}
use Rattle.dk_forms.proofs.Order.{laws_of_hull, more_of_hull}
use Rattle.dk_forms.proofs.Knowns.{laws_of_states}
use Rattle.dk_forms.proofs.Summaries.{summary_from}
use Rattle.dk_forms.specs.declared.states.State.{State}
use Rattle.dk_forms.specs.declared.states.State.TheVariants.{Empty, Broken, Spot, Straight}

line_fits : (s : State) → IsLineState s → IfFact IsLine (line_known s)
line_fits Empty p = tt
line_fits (Spot x y) p = p
line_fits (Straight a b c) p = p
line_fits _ p = tt

line_back : (s : State) → IsLineState s → line_state (line_known s) ≡ s
line_back Empty p = refl
line_back Broken p = refl
line_back (Spot x y) p = refl
line_back (Straight a b c) p = refl
line_back _ p = absurd p

line_proper : (k : Known Line) → IfFact IsLine k → IsLineState (line_state k)
line_proper nothing p = tt
line_proper broken p = tt
line_proper (fact (spot q)) p = p
line_proper (fact (straight l)) p = p

line_again : (k : Known Line) → IfFact IsLine k → line_known (line_state k) ≡ k
line_again nothing p = refl
line_again broken p = refl
line_again (fact (spot q)) p = refl
line_again (fact (straight l)) p = refl

pub line_laws : JoinLaws IsLineState Empty Broken line_join
line_laws = laws_of_states IsLineState IsLine line_known line_state line_fits line_back line_proper line_again refl refl (laws_of_hull line_hull)

line_more : (v : ℤ × ℤ) (vs : List (ℤ × ℤ)) → line_of (v ∷ vs) ≡ line_join (line_of (v ∷ [])) (line_of vs)
line_more v vs =
    let k = line_known_of_is in
    ap line_state (more_of_hull line_hull k v vs)
    ∙ sym (ap (λ a. line_state (both line_meet a (line_known (line_of vs)))) (line_again _ (k.fit (v ∷ [])))
    ∙ ap (λ b. line_state (both line_meet (line_known_of (v ∷ [])) b)) (line_again _ (k.fit vs)))

pub line_summary : SummaryLaws IsLineState Empty line_join line_of
line_summary = summary_from line_laws (record { none = refl; one = λ v. line_proper _ (line_known_of_is.fit (v ∷ [])); more = line_more })
