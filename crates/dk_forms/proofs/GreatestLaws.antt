-- The laws of the form greatest.
use Rattle.std.specs.Prelude.{[], ◌≡◌, ℤ, List, ◌∷◌, fold, refl}
use Rattle.std.specs.Int.{int_max}
use Rattle.std.proofs.Common.{ap, ◌∙◌, arith}
use Rattle.std.proofs.lemmas.Int.{ints, clamps}
use Rattle.dk_forms.specs.Known.{IfFact, Known, broken, fact, nothing}
use Rattle.dk_forms.specs.Greatest.{IsGreatestState, greatest_join, greatest_known, greatest_of, greatest_state}
use Rattle.dk_forms.specs.Laws.{JoinLaws, SummaryLaws}
use Rattle.dk_forms.proofs.Knowns.{MeetLaws, laws_of_states}
use Rattle.dk_forms.proofs.Summaries.{summary_from}
use Rattle.dk_forms.specs.declared.states.State.{State}
use Rattle.dk_forms.specs.declared.states.State.TheVariants.{Empty, Broken, Greatest}

-- ---- the greatest
greatest_meet : MeetLaws (λ (x : ℤ). Unit {0}) (λ x y. fact (int_max x y))
greatest_meet = record {
  closed = λ x y p q. tt;
  assoc = λ x y z p q r. ap fact (omega (arith, ints, clamps));
  comm = λ x y p q. ap fact (omega (arith, ints, clamps));
  idem = λ x p. ap fact (omega (arith, ints, clamps));
}

greatest_fits : (s : State) → IsGreatestState s → IfFact (λ (x : ℤ). Unit {0}) (greatest_known s)
greatest_fits Empty p = tt
greatest_fits (Greatest k) p = tt
greatest_fits _ p = tt

greatest_back : (s : State) → IsGreatestState s → greatest_state (greatest_known s) ≡ s
greatest_back Empty p = refl
greatest_back Broken p = refl
greatest_back (Greatest k) p = refl
greatest_back _ p = absurd p

greatest_proper : (k : Known ℤ) → IfFact (λ (x : ℤ). Unit {0}) k → IsGreatestState (greatest_state k)
greatest_proper nothing p = tt
greatest_proper broken p = tt
greatest_proper (fact u) p = tt

greatest_again : (k : Known ℤ) → IfFact (λ (x : ℤ). Unit {0}) k → greatest_known (greatest_state k) ≡ k
greatest_again nothing p = refl
greatest_again broken p = refl
greatest_again (fact u) p = refl

pub greatest_laws : JoinLaws IsGreatestState Empty Broken greatest_join
greatest_laws = laws_of_states IsGreatestState (λ (x : ℤ). Unit {0}) greatest_known greatest_state greatest_fits greatest_back greatest_proper greatest_again refl refl greatest_meet

fold-max : (x y : ℤ) (ys : List ℤ) → fold int_max (int_max x y) ys ≡ int_max x (fold int_max y ys)
fold-max x y [] = refl
fold-max x y (z ∷ zs) =
    let e : int_max (int_max x y) z ≡ int_max x (int_max y z) = omega (arith, ints, clamps) in
    ap (λ w. fold int_max w zs) e ∙ fold-max x (int_max y z) zs

greatest_more : (x : ℤ) (xs : List ℤ) → greatest_of (x ∷ xs) ≡ greatest_join (greatest_of (x ∷ [])) (greatest_of xs)
greatest_more x [] = refl
greatest_more x (y ∷ ys) = ap Greatest (fold-max x y ys)

pub greatest_summary : SummaryLaws IsGreatestState Empty greatest_join greatest_of
greatest_summary = summary_from greatest_laws (record { none = refl; one = λ v. tt; more = greatest_more })
