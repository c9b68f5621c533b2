-- What it takes that a rule begins or ceases to suppress a tuple.
use Rattle.std.specs.Prelude.{◌≡◌, ◌<◌, ◌≤◌, ◌&&◌, ◌==◌, ℕ, zero, suc, Bool, true, false, All, Contains, IsTrue, List, [], ◌∷◌, ◌++◌, cond, length, not, refl}
use Rattle.std.specs.List.{list_all, list_any}
use Rattle.std.proofs.Common.{ap, arith, get_or, inl, inr, subst, sym, ◌∙◌}
use Rattle.std.proofs.lemmas.Bool.{and_from, and_parts, cases_Bool, eq-eqb, eqb-true, false_from_ne_true, false≢true, not-true, true≢false}
use Rattle.std.proofs.lemmas.List.{length-append}
use Rattle.std.proofs.lemmas.List.Elements.{All-contains}
use Rattle.std.proofs.lemmas.List.Folds.{Any-from_list_any, list_any-from_Any}
use Rattle.std.proofs.lemmas.List.Sums.{AllPass-from_list_all}
use Rattle.dk_base.specs.Values.Spelling.{IsWritten}
use Rattle.dk_base.specs.declared.kinds.VarId.{VarId}
use Rattle.dk_base.specs.declared.values.Value.{Value}
use Rattle.dk_instances.specs.Fits.{fit, is_whole, premise_holds, tuple_in, tuples_of}
use Rattle.dk_forms.specs.declared.states.State.{State}
use Rattle.dk_forms.specs.declared.states.State.TheVariants.{Broken, Empty}
use Rattle.dk_samples.specs.Samples.{is_present, value_in}
use Rattle.dk_suppress.proofs.Sound.{suppressed_hold}
use Rattle.dk_suppress.specs.Rules.{Rule, is_suppressed, rules}
use Rattle.dk_suppress.specs.Soundness.{fit_of, holds_of}
use Rattle.dk_template.specs.Premises.{is_formed, premise_fits, roles_read, row_of, suffices, vars_of}
use Rattle.dk_template.specs.Templates.{IsRow, arity_of}
use Rattle.dk_template.specs.declared.answers.Premise.{Premise}
use Rattle.dk_template.specs.declared.answers.Premise.TheVariants.{Holds, LeastAtLeast, GreatestAtMost, Only}
use Rattle.dk_template.specs.declared.grammar.RowId.{RowId}
use Rattle.dk_engine.proofs.PremiseSlots.{asked_all}
use Rattle.dk_engine.proofs.BegunPremises.{begins_apart}
use Rattle.dk_engine.proofs.Pushing.{AreApart, apart_is_empty, present_by_whole, tuples_push, whole_by_present}
use Rattle.dk_engine.proofs.Standing.{none_passes}
use Rattle.dk_engine.specs.Feeding.Step.{IsPremiseOf, asks_elements, is_begun, is_lost, is_of_elements}

-- ---- a premise on which two answers differ
one_fails : {X : Type 0} (test : X → Bool) (xs : List X) → list_all test xs ≡ false → (k : ℕ) × (x : X) × (k < length xs) × (get_or xs k x ≡ x) × (test x ≡ false)
one_fails test [] h = absurd (true≢false h)
one_fails test (x ∷ xs) h = elim (cases_Bool (test x)) [
  | inl e ↦
      let rest = one_fails test xs (ap (λ b. b && list_all test xs) (sym e) ∙ h) in
      let l = rest.2 in
      (suc rest.0, rest.1, omega (arith, l), rest.3, rest.4)
  | inr e ↦ (0, x, omega arith, refl, e)
]

-- where one answer suppresses the row and another doesn't, some premise fits by the one and not by the other
pub answers_differ : (one other : RowId → List VarId → State) (row : RowId) (vars : List VarId) → is_suppressed one row vars ≡ true → is_suppressed other row vars ≡ false
    → (p : Premise) × IsPremiseOf row p × (premise_fits one p vars ≡ true) × (premise_fits other p vars ≡ false)
answers_differ one other row vars h k =
    let fit_all : (RowId → List VarId → State) → Rule → Bool = λ a r. r.0.0 == row.0 && list_all (λ p. premise_fits a p vars) r.1 in
    let found = Any-from_list_any (fit_all one) rules h in
    let r = found.1 in
    let there : Contains rules r = (found.0, found.2, found.3) in
    let parts = and_parts (r.0.0 == row.0) (list_all (λ p. premise_fits one p vars) r.1) found.4 in
    let fails : list_all (λ p. premise_fits other p vars) r.1 ≡ false = false_from_ne_true (list_all (λ p. premise_fits other p vars) r.1) (λ e.
    true≢false (sym (list_any-from_Any (fit_all other) rules (found.0, r, found.2, found.3, and_from (r.0.0 == row.0) (list_all (λ p. premise_fits other p vars) r.1) parts.0 e)) ∙ k)) in
    let bad = one_fails (λ p. premise_fits other p vars) r.1 fails in
    let asks : Contains r.1 bad.1 = (bad.0, bad.2, bad.3) in (
      bad.1,
      record { rule = r; listed = there; concludes = ap (λ n. record { 0 = n }) (eqb-true r.0.0 row.0 parts.0); asks = asks },
      All-contains (λ p. premise_fits one p vars ≡ true) r.1 bad.1 (AllPass-from_list_all (λ p. premise_fits one p vars) r.1 parts.1) asks,
      bad.4,
    )

module _ (samples : List (List Value)) (sample : List Value) (row : RowId) (vars : List VarId) where
  -- a row that ceases to be suppressed lost a premise
  pub lost_premise_frees : is_suppressed (fit_of samples) row vars ≡ true → is_suppressed (fit_of (samples ++ sample ∷ [])) row vars ≡ false
      → (p : Premise) × IsPremiseOf row p × IsTrue (is_lost (fit_of samples) (fit_of (samples ++ sample ∷ [])) p vars)
  lost_premise_frees h k =
      let d = answers_differ (fit_of samples) (fit_of (samples ++ sample ∷ [])) row vars h k in
      (d.0, d.1, and_from (premise_holds samples d.0 vars) (not (premise_holds (samples ++ sample ∷ []) d.0 vars)) d.2 (ap not d.3))

  -- one that begins to be suppressed has a premise that begins to fit
  pub begun_premise_suppresses : is_suppressed (fit_of samples) row vars ≡ false → is_suppressed (fit_of (samples ++ sample ∷ [])) row vars ≡ true
      → (p : Premise) × IsPremiseOf row p × IsTrue (is_begun (fit_of samples) (fit_of (samples ++ sample ∷ [])) p vars)
  begun_premise_suppresses h k =
      let d = answers_differ (fit_of (samples ++ sample ∷ [])) (fit_of samples) row vars k h in
      (d.0, d.1, and_from (premise_holds (samples ++ sample ∷ []) d.0 vars) (not (premise_holds samples d.0 vars)) d.2 (ap not d.3))

-- ---- beginning
-- no rule of the row asks for the least or the greatest element, so none of its premises is about elements
pub about_no_elements : (row : RowId) (p : Premise) → IsPremiseOf row p → list_any (λ (r : Rule). r.0.0 == row.0 && asks_elements r) rules ≡ false → is_of_elements (row_of p) ≡ false
about_no_elements row p of h =
    let test : Rule → Bool = λ r. r.0.0 == row.0 && asks_elements r in
    let rule = All-contains (λ r. test r ≡ false) rules of.rule (none_passes test rules h) of.listed in
    let own : (of.rule.0.0 == row.0) ≡ true = eq-eqb of.rule.0.0 row.0 (ap (λ (r : RowId). r.0) of.concludes) in
    let asks : asks_elements of.rule ≡ false = ap (λ b. b && asks_elements of.rule) (sym own) ∙ rule in
    All-contains (λ q. is_of_elements (row_of q) ≡ false) of.rule.1 p (none_passes (λ q. is_of_elements (row_of q)) of.rule.1 asks) of.asks

-- Where a premise that isn't about elements begins to fit, its variables were present together in no sample, so the conclusion was Empty.
pub empty_alone_begins : (row : RowId) → IsRow row → (vars : List VarId) (p : Premise) → IsTrue (is_formed p) → IsRow (row_of p) → All (λ role. role < length vars) (roles_read p) → is_of_elements (row_of p) ≡ false
    → (samples : List (List Value)) (sample : List Value) → IsTrue (is_begun (fit_of samples) (fit_of (samples ++ sample ∷ [])) p vars) → AreApart (vars_of p vars) samples × (fit row vars samples ≡ Empty)
empty_alone_begins row is vars p formed asked there other samples sample begun =
    let parts = and_parts (premise_holds (samples ++ sample ∷ []) p vars) (not (premise_holds samples p vars)) begun in
    let own = begins_apart p formed asked other (vars_of p vars) samples sample (not-true (premise_holds samples p vars) parts.1) parts.0 in
    let apart : AreApart vars samples = λ k d l.
    false_from_ne_true (is_whole (tuple_in vars (get_or samples k d))) (λ w.
    true≢false (sym (whole_by_present (vars_of p vars) (get_or samples k d) (asked_all (λ v. is_present (value_in (get_or samples k d) v) ≡ true) p vars there (present_by_whole vars (get_or samples k d) w))) ∙ own k d l)) in
    (own, apart_is_empty row is vars samples apart)

-- ---- losing
-- a premise that some tuples let fit, of a row that holds of them, fits on more
holds_on : (p : Premise) (n m : ℕ) → suffices p (holds_of n) ≡ true → n ≤ m → suffices p (holds_of m) ≡ true
holds_on (Holds row roles) zero m h l = absurd (false≢true h)
holds_on (Holds row roles) (suc n) zero h l = absurd (omega (arith, l))
holds_on (Holds row roles) (suc n) (suc m) h l = refl
holds_on (LeastAtLeast row role k) zero m h l = absurd (false≢true h)
holds_on (LeastAtLeast row role k) (suc n) m h l = absurd (false≢true h)
holds_on (GreatestAtMost row role k) zero m h l = absurd (false≢true h)
holds_on (GreatestAtMost row role k) (suc n) m h l = absurd (false≢true h)
holds_on (Only role k) zero m h l = absurd (false≢true h)
holds_on (Only role k) (suc n) m h l = absurd (false≢true h)

-- What a rule suppresses holds. So where a suppressed row is as a premise wants it, and ceases to be so, nothing suppresses it any more.
pub lost_is_unsuppressed : (samples : List (List Value)) (sample : List Value) → All (λ s. All IsWritten s) (samples ++ sample ∷ []) → All (λ s. All IsWritten s) samples
    → (row : RowId) (vars : List VarId) → length vars ≡ arity_of row → (p : Premise) → suffices p (fit row vars samples) ≡ true → suffices p (fit row vars (samples ++ sample ∷ [])) ≡ false
    → is_suppressed (fit_of samples) row vars ≡ true → is_suppressed (fit_of (samples ++ sample ∷ [])) row vars ≡ false
lost_is_unsuppressed samples sample all written row vars long p before after h =
    false_from_ne_true (is_suppressed (fit_of (samples ++ sample ∷ [])) row vars) (λ k.
    let us = cond (is_whole (tuple_in vars sample)) (tuple_in vars sample ∷ []) [] in
    let more : length (tuples_of vars samples) ≤ length (tuples_of vars (samples ++ sample ∷ [])) =
    subst (λ ts. length (tuples_of vars samples) ≤ length ts) (sym (tuples_push vars samples sample)) (let n = length-append (tuples_of vars samples) us in omega (arith, n)) in
    let was = ap (suffices p) (sym (suppressed_hold samples written row vars long h)) ∙ before in
    let is = ap (suffices p) (suppressed_hold (samples ++ sample ∷ []) all row vars long k) ∙ holds_on p (length (tuples_of vars samples)) (length (tuples_of vars (samples ++ sample ∷ []))) was more in
    true≢false (sym is ∙ after))

-- no premise is content with a broken state
pub broken_suffices_not : (p : Premise) → suffices p Broken ≡ false
broken_suffices_not (Holds row roles) = refl
broken_suffices_not (LeastAtLeast row role k) = refl
broken_suffices_not (GreatestAtMost row role k) = refl
broken_suffices_not (Only role k) = refl
