-- The laws of the form truth.
use Rattle.std.specs.Prelude.{◌≡◌, Bool, List, [], ◌∷◌, refl}
use Rattle.std.proofs.Common.{sym, ap, ◌∙◌}
use Rattle.std.proofs.Math.Bool.{beq}
use Rattle.std.specs.Cmp.{booleans_Decides}
use Rattle.dk_forms.specs.Known.{Known, nothing, broken, fact, both, IfFact}
use Rattle.dk_forms.specs.Laws.{JoinLaws, SummaryLaws}
use Rattle.dk_forms.specs.Known.Only.{only_of, only_meet}
use Rattle.dk_forms.specs.Truth.{IsTruthState, truth_known, truth_state, truth_join, truth_of}
use Rattle.dk_forms.proofs.Summaries.{summary_from}
use Rattle.dk_forms.proofs.Knowns.{laws_of_states}
use Rattle.dk_forms.proofs.OnlyLaws.{only_laws, only_of_more}
use Rattle.dk_forms.specs.declared.states.State.{State}
use Rattle.dk_forms.specs.declared.states.State.TheVariants.{Empty, Broken, Truth}

truth_fits : (s : State) → IsTruthState s → IfFact (λ (x : Bool). Unit {0}) (truth_known s)
truth_fits Empty p = tt
truth_fits (Truth b) p = tt
truth_fits _ p = tt

truth_back : (s : State) → IsTruthState s → truth_state (truth_known s) ≡ s
truth_back Empty p = refl
truth_back Broken p = refl
truth_back (Truth b) p = refl
truth_back _ p = absurd p

truth_proper : (k : Known Bool) → IfFact (λ (x : Bool). Unit {0}) k → IsTruthState (truth_state k)
truth_proper nothing p = tt
truth_proper broken p = tt
truth_proper (fact b) p = tt

truth_again : (k : Known Bool) → truth_known (truth_state k) ≡ k
truth_again nothing = refl
truth_again broken = refl
truth_again (fact b) = refl

pub truth_laws : JoinLaws IsTruthState Empty Broken truth_join
truth_laws = laws_of_states IsTruthState (λ (x : Bool). Unit {0}) truth_known truth_state truth_fits truth_back truth_proper (λ k p. truth_again k) refl refl (only_laws beq booleans_Decides)

truth_more : (v : Bool) (vs : List Bool) → truth_of (v ∷ vs) ≡ truth_join (truth_of (v ∷ [])) (truth_of vs)
truth_more v vs = ap truth_state (only_of_more beq booleans_Decides v vs ∙ sym (ap (both (only_meet beq) (fact v)) (truth_again (only_of beq vs))))

pub truth_summary : SummaryLaws IsTruthState Empty truth_join truth_of
truth_summary = summary_from truth_laws (record { none = refl; one = λ v. tt; more = truth_more })
