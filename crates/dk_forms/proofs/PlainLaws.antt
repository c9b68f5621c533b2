-- The laws of the form plain.
use Rattle.std.specs.Prelude.{[], ◌≡◌, Bool, true, false, cond, List, ◌∷◌, refl}
use Rattle.std.specs.List.{list_all}
use Rattle.dk_forms.specs.Known.{IfFact, Known, broken, fact, nothing}
use Rattle.dk_forms.specs.Plain.{IsPlainState, plain_join, plain_known, plain_of, plain_state}
use Rattle.dk_forms.specs.Laws.{JoinLaws, SummaryLaws}
use Rattle.dk_forms.proofs.Knowns.{MeetLaws, laws_of_states}
use Rattle.dk_forms.proofs.Summaries.{summary_from}
use Rattle.dk_forms.specs.declared.states.State.{State}
use Rattle.dk_forms.specs.declared.states.State.TheVariants.{Empty, Broken, Holds}

-- ---- plain
plain_meet : MeetLaws (λ (u : Unit {0}). Unit {0}) (λ _ _. fact tt)
plain_meet = record { closed = λ x y p q. tt; assoc = λ x y z p q r. refl; comm = λ x y p q. refl; idem = λ x p. refl }

plain_fits : (s : State) → IsPlainState s → IfFact (λ (u : Unit {0}). Unit {0}) (plain_known s)
plain_fits Empty p = tt
plain_fits Holds p = tt
plain_fits _ p = tt

plain_back : (s : State) → IsPlainState s → plain_state (plain_known s) ≡ s
plain_back Empty p = refl
plain_back Broken p = refl
plain_back Holds p = refl
plain_back _ p = absurd p

plain_proper : (k : Known (Unit {0})) → IfFact (λ (u : Unit {0}). Unit {0}) k → IsPlainState (plain_state k)
plain_proper nothing p = tt
plain_proper broken p = tt
plain_proper (fact u) p = tt

plain_again : (k : Known (Unit {0})) → IfFact (λ (u : Unit {0}). Unit {0}) k → plain_known (plain_state k) ≡ k
plain_again nothing p = refl
plain_again broken p = refl
plain_again (fact u) p = refl

pub plain_laws : JoinLaws IsPlainState Empty Broken plain_join
plain_laws = laws_of_states IsPlainState (λ (u : Unit {0}). Unit {0}) plain_known plain_state plain_fits plain_back plain_proper plain_again refl refl plain_meet

plain_one : (b : Bool) → IsPlainState (plain_of (b ∷ []))
plain_one true = tt
plain_one false = tt

plain_more : (b : Bool) (bs : List Bool) → plain_of (b ∷ bs) ≡ plain_join (plain_of (b ∷ [])) (plain_of bs)
plain_more true [] = refl
plain_more false [] = refl
plain_more false (c ∷ cs) = refl
plain_more true (c ∷ cs) = elim (list_all (λ h. h) (c ∷ cs)) as (λ r. cond r Holds Broken ≡ plain_join Holds (cond r Holds Broken)) [ true ↦ refl | false ↦ refl ]

pub plain_summary : SummaryLaws IsPlainState Empty plain_join plain_of
plain_summary = summary_from plain_laws (record { none = refl; one = plain_one; more = plain_more })
