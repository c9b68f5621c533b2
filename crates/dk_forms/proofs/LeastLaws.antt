-- The laws of the form least.
use Rattle.std.specs.Prelude.{[], ◌≡◌, ℤ, List, ◌∷◌, fold, refl}
use Rattle.std.specs.Int.{int_min}
use Rattle.std.proofs.Common.{ap, ◌∙◌, arith}
use Rattle.std.proofs.lemmas.Int.{ints, clamps}
use Rattle.dk_forms.specs.Known.{IfFact, Known, broken, fact, nothing}
use Rattle.dk_forms.specs.Least.{IsLeastState, least_join, least_known, least_of, least_state}
use Rattle.dk_forms.specs.Laws.{JoinLaws, SummaryLaws}
use Rattle.dk_forms.proofs.Knowns.{MeetLaws, laws_of_states}
use Rattle.dk_forms.proofs.Summaries.{summary_from}
use Rattle.dk_forms.specs.declared.states.State.{State}
use Rattle.dk_forms.specs.declared.states.State.TheVariants.{Empty, Broken, Least}

-- ---- the least
least_meet : MeetLaws (λ (x : ℤ). Unit {0}) (λ x y. fact (int_min x y))
least_meet = record {
  closed = λ x y p q. tt;
  assoc = λ x y z p q r. ap fact (omega (arith, ints, clamps));
  comm = λ x y p q. ap fact (omega (arith, ints, clamps));
  idem = λ x p. ap fact (omega (arith, ints, clamps));
}

least_fits : (s : State) → IsLeastState s → IfFact (λ (x : ℤ). Unit {0}) (least_known s)
least_fits Empty p = tt
least_fits (Least k) p = tt
least_fits _ p = tt

least_back : (s : State) → IsLeastState s → least_state (least_known s) ≡ s
least_back Empty p = refl
least_back Broken p = refl
least_back (Least k) p = refl
least_back _ p = absurd p

least_proper : (k : Known ℤ) → IfFact (λ (x : ℤ). Unit {0}) k → IsLeastState (least_state k)
least_proper nothing p = tt
least_proper broken p = tt
least_proper (fact u) p = tt

least_again : (k : Known ℤ) → IfFact (λ (x : ℤ). Unit {0}) k → least_known (least_state k) ≡ k
least_again nothing p = refl
least_again broken p = refl
least_again (fact u) p = refl

pub least_laws : JoinLaws IsLeastState Empty Broken least_join
least_laws = laws_of_states IsLeastState (λ (x : ℤ). Unit {0}) least_known least_state least_fits least_back least_proper least_again refl refl least_meet

fold-min : (x y : ℤ) (ys : List ℤ) → fold int_min (int_min x y) ys ≡ int_min x (fold int_min y ys)
fold-min x y [] = refl
fold-min x y (z ∷ zs) =
    let e : int_min (int_min x y) z ≡ int_min x (int_min y z) = omega (arith, ints, clamps) in
    ap (λ w. fold int_min w zs) e ∙ fold-min x (int_min y z) zs

least_more : (x : ℤ) (xs : List ℤ) → least_of (x ∷ xs) ≡ least_join (least_of (x ∷ [])) (least_of xs)
least_more x [] = refl
least_more x (y ∷ ys) = ap Least (fold-min x y ys)

pub least_summary : SummaryLaws IsLeastState Empty least_join least_of
least_summary = summary_from least_laws (record { none = refl; one = λ v. tt; more = least_more })
