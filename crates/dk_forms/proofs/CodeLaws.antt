-- The laws of the form code.
use Rattle.std.specs.Prelude.{◌≡◌, ℕ, nat_eq, List, [], ◌∷◌, refl}
use Rattle.std.proofs.Common.{sym, ap, ◌∙◌}
use Rattle.std.proofs.lemmas.Bool.Decides.{Decides-eqb}
use Rattle.dk_forms.specs.Known.{Known, nothing, broken, fact, both, IfFact}
use Rattle.dk_forms.specs.Laws.{JoinLaws, SummaryLaws}
use Rattle.dk_forms.specs.Known.Only.{only_of, only_meet}
use Rattle.dk_forms.specs.Code.{IsCodeState, code_known, code_state, code_join, code_of}
use Rattle.dk_forms.proofs.Summaries.{summary_from}
use Rattle.dk_forms.proofs.Knowns.{laws_of_states}
use Rattle.dk_forms.proofs.OnlyLaws.{only_laws, only_of_more}
use Rattle.dk_forms.specs.declared.states.State.{State}
use Rattle.dk_forms.specs.declared.states.State.TheVariants.{Empty, Broken, Code}

code_fits : (s : State) → IsCodeState s → IfFact (λ (x : ℕ). Unit {0}) (code_known s)
code_fits Empty p = tt
code_fits (Code b) p = tt
code_fits _ p = tt

code_back : (s : State) → IsCodeState s → code_state (code_known s) ≡ s
code_back Empty p = refl
code_back Broken p = refl
code_back (Code b) p = refl
code_back _ p = absurd p

code_proper : (k : Known ℕ) → IfFact (λ (x : ℕ). Unit {0}) k → IsCodeState (code_state k)
code_proper nothing p = tt
code_proper broken p = tt
code_proper (fact b) p = tt

code_again : (k : Known ℕ) → code_known (code_state k) ≡ k
code_again nothing = refl
code_again broken = refl
code_again (fact b) = refl

pub code_laws : JoinLaws IsCodeState Empty Broken code_join
code_laws = laws_of_states IsCodeState (λ (x : ℕ). Unit {0}) code_known code_state code_fits code_back code_proper (λ k p. code_again k) refl refl (only_laws nat_eq Decides-eqb)

code_more : (v : ℕ) (vs : List ℕ) → code_of (v ∷ vs) ≡ code_join (code_of (v ∷ [])) (code_of vs)
code_more v vs = ap code_state (only_of_more nat_eq Decides-eqb v vs ∙ sym (ap (both (only_meet nat_eq) (fact v)) (code_again (only_of nat_eq vs))))

pub code_summary : SummaryLaws IsCodeState Empty code_join code_of
code_summary = summary_from code_laws (record { none = refl; one = λ v. tt; more = code_more })
