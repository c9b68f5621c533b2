-- What is kept behind a record.
use Rattle.std.specs.Prelude.{◌≡◌, ◌+◌, ◌<◌, ◌++◌, ◌∷◌, ℕ, All, List, [], length, slice_get, Some, refl}
use Rattle.std.specs.List.{AllZip}
use Rattle.std.proofs.Common.{◌∙◌, ap, arith, inl, inr, subst, sym}
use Rattle.std.proofs.lemmas.List.{append-nil}
use Rattle.std.proofs.lemmas.List.Elements.{All-append, All-cons, All-nil}
use Rattle.dk_base.specs.declared.values.Value.{Value}
use Rattle.dk_derive.specs.Values.{values_by_form}
use Rattle.dk_hierarchy.specs.Samples.{all_vars_of}
use Rattle.dk_meanings.specs.Meanings.{state_of}
use Rattle.dk_points.specs.Table.{Point}
use Rattle.dk_presence.specs.Patterns.{capped}
use Rattle.dk_verdicts.proofs.Checked.{get_within, there_too}
use Rattle.dk_verdicts.proofs.Found.{Tell, all_found, found_behind}
use Rattle.dk_verdicts.proofs.Growth.{all_known}
use Rattle.dk_verdicts.proofs.Reached.{number_reached, state_reached}
use Rattle.dk_verdicts.proofs.Taken.{with_tuples_testable}
use Rattle.dk_verdicts.specs.Checks.{AreByWaysIf, AreChecksOf, checks_by, checks_on}
use Rattle.dk_verdicts.specs.Records.{Record}
use Rattle.dk_verdicts.specs.Standing.{AreFindingsOf, AreUnfed, IsFindingOf, IsFound, IsKeptUp, IsOf, StandsFor, claims_of, known_of}
use Rattle.dk_verdicts.specs.Tests.{AreTaken, Takes, tuples_by_all}
use Rattle.dk_verdicts.specs.declared.checker.Checker.{Checker}
use Rattle.dk_verdicts.specs.declared.checks.Check.{Check}
use Rattle.dk_verdicts.specs.declared.findings.Finding.{Finding}
use Rattle.dk_verdicts.specs.declared.findings.Finding.TheVariants.{Holds, Violated, Unknown}

-- ---- what is found, and its checks
finding_taken : (ps : List Point) (file line : ℕ) (ts : List (List Value)) (f g : Finding) → IsFindingOf ps f → Takes file line ts f g → IsFindingOf ps g
finding_taken ps file line ts Unknown g is takes = subst (IsFindingOf ps) (sym takes) tt
finding_taken ps file line ts (Violated x y) g is takes = subst (IsFindingOf ps) (sym takes) tt
finding_taken ps file line ts (Holds point a n) g is (proper, inl (not, same)) =
    subst (IsFindingOf ps) (sym same) (record { within = is.0.within; vars = is.0.vars; testable = with_tuples_testable a is.0.testable ts proper }, twice (n + length ts))
  where
    twice : (m : ℕ) → capped m ≡ capped (capped m)
    twice m = omega arith
finding_taken ps file line ts (Holds point a n) g is (proper, inr (violated, same)) = subst (IsFindingOf ps) (sym same) tt

by_ways_taken : (ps : List Point) (checks : List (List Check)) (i file line : ℕ) (ts : List (List Value)) (f g : Finding) → AreByWaysIf ps checks i f → Takes file line ts f g → AreByWaysIf ps checks i g
by_ways_taken ps checks i file line ts Unknown g by takes = subst (AreByWaysIf ps checks i) (sym takes) tt
by_ways_taken ps checks i file line ts (Violated x y) g by takes = subst (AreByWaysIf ps checks i) (sym takes) tt
by_ways_taken ps checks i file line ts (Holds point a n) g by (proper, inl (not, same)) = subst (AreByWaysIf ps checks i) (sym same) by
by_ways_taken ps checks i file line ts (Holds point a n) g by (proper, inr (violated, same)) = subst (AreByWaysIf ps checks i) (sym same) tt

-- ---- the checker
module _ (ps : List Point) (c next : Checker) (file line p : ℕ) (sample : List Value) (own : List Check) (kept : IsKeptUp ps c) (long : length c.engines.items ≡ length ps) (checks : AreChecksOf ps c.findings.items c.checks.items) (here : slice_get c.checks.items p ≡ Some own) (same : next ≡ record c { findings = next.findings }) (taken : AreTaken file line sample own c.findings.items next.findings.items) where
  known : known_of ps c ≡ ps
  known = all_known ps c long

  engines_same : next.engines ≡ c.engines
  engines_same = ap (λ (n : Checker). n.engines) same

  checks_same : next.checks ≡ c.checks
  checks_same = ap (λ (n : Checker). n.checks) same

  claims_same : claims_of next ≡ claims_of c
  claims_same = ap claims_of same

  known_next : known_of ps next ≡ ps
  known_next = all_known ps next (ap (λ e. length e.items) engines_same ∙ long)

  findings : AreFindingsOf ps c.findings.items
  findings = subst (λ known. AreFindingsOf known c.findings.items) known kept.findings

  was : (i : ℕ) (g : Finding) → slice_get next.findings.items i ≡ Some g → (f : Finding) × (slice_get c.findings.items i ≡ Some f)
  was i g at = there_too c.findings.items next.findings.items i g taken.long at

  findings_next : AreFindingsOf ps next.findings.items
  findings_next i g at = let w = was i g at in finding_taken ps file line (tuples_by_all sample (checks_on i own)) w.0 g (findings i w.0 w.1) (taken.each i w.0 g w.1 at)

  checks_next : AreChecksOf ps next.findings.items c.checks.items
  checks_next = record {
    long = checks.long;
    each = λ i g below at. let w = was i g at in
        by_ways_taken ps c.checks.items i file line (tuples_by_all sample (checks_on i own)) w.0 g (checks.each i w.0 (let l = taken.long in omega (arith, l, below)) w.1) (taken.each i w.0 g w.1 at);
    within = λ j others at k d l. let less = checks.within j others at k d l in let e = taken.long in omega (arith, less, e);
  }

  pub kept_up_behind : IsKeptUp ps next
  kept_up_behind = record {
    front = let e = ap (λ e. length e.items) engines_same in omega (arith, e, long);
    engines = subst (λ es. AreUnfed (known_of ps next) es) (ap (λ e. e.items) (sym engines_same)) (subst (λ known. AreUnfed known c.engines.items) (known ∙ sym known_next) kept.engines);
    long = taken.long ∙ kept.long ∙ sym (ap length claims_same);
    findings = subst (λ known. AreFindingsOf known next.findings.items) (sym known_next) findings_next;
    checks = inr (subst (λ known. AreChecksOf known next.findings.items next.checks.items) (sym known_next) (subst (λ l. AreChecksOf ps next.findings.items l) (ap (λ l. l.items) (sym checks_same)) checks_next));
  }

  module _ (within : p < length ps) (base : List Value) (derived : sample ≡ values_by_form (all_vars_of ps p) base) where
    abbrev r : Record
    r = record { table = ps; file = file; line = line; point = p; values = base }

    tells : (i : ℕ) (f : Finding) → IsFindingOf ps f → AreByWaysIf ps c.checks.items i f → Tell (tuples_by_all sample (checks_on i own)) r f
    tells i Unknown is by = tt
    tells i (Violated x y) is by = tt
    tells i (Holds point a n) is by =
        let all : tuples_by_all sample (checks_on i own) ≡ tuples_by_all (values_by_form (all_vars_of ps p) base) (checks_by i a.vars p by.ways) =
        ap (tuples_by_all sample) (by.by_ways p own here) ∙ ap (λ s. tuples_by_all s (checks_by i a.vars p by.ways)) derived in (
          state_reached ps point.0 p base by.ways by.descent a.row is.0.testable.row i a.vars ∙ ap (state_of a.row) (sym all),
          number_reached ps point.0 p base by.ways by.descent a.row is.0.testable.row i a.vars ∙ ap (λ (ts : List (List Value)). capped (length ts)) (sym all),
        )

    pub stands_behind : (rs : List Record) → StandsFor c ps rs → StandsFor next ps (rs ++ r ∷ [])
    stands_behind rs stands = record {
      records = subst (λ known. All (IsOf known) (rs ++ r ∷ [])) (sym known_next)
          (All-append (IsOf ps) rs (r ∷ []) (subst (λ known. All (IsOf known) rs) known stands.records)
          (All-cons (IsOf ps) r [] (record { front = ([], sym (append-nil ps)); within = within }) (All-nil (IsOf ps))));
      found = subst (λ known. AllZip (IsFound known (rs ++ r ∷ [])) (claims_of next) next.findings.items) (sym known_next)
          (subst (λ claims. AllZip (IsFound ps (rs ++ r ∷ [])) claims next.findings.items) (sym claims_same)
          (all_found (IsFound ps rs) (IsFound ps (rs ++ r ∷ [])) (claims_of c) c.findings.items next.findings.items taken.long
          (λ i claim f g at old new. found_behind ps rs r (tuples_by_all sample (checks_on i own)) claim file line f g refl refl
          (tells i f (findings i f old) (checks.each i f (get_within c.findings.items i f old) old)) (taken.each i f g old new))
          (subst (λ known. AllZip (IsFound known rs) (claims_of c) c.findings.items) known stands.found)));
    }

-- ---- the checks are made
-- what is kept is as it was but for them
pub record IsReady (ps : List Point) (c next : Checker) : Type 0 where
  pub kept_up : IsKeptUp ps next
  pub long : length next.engines.items ≡ length ps
  pub stands : (rs : List Record) → StandsFor c ps rs → StandsFor next ps rs

pub with_checks : (ps : List Point) (c next : Checker) → IsKeptUp ps c → length c.engines.items ≡ length ps → next ≡ record c { checks = next.checks } → AreChecksOf ps next.findings.items next.checks.items → IsReady ps c next
with_checks ps c next kept long same checks =
    let findings : next.findings ≡ c.findings = ap (λ (n : Checker). n.findings) same in
    let its : AreChecksOf ps c.findings.items next.checks.items = subst (λ f. AreChecksOf ps f next.checks.items) (ap (λ f. f.items) findings) checks in
    subst (IsReady ps c) (sym same) (record {
      kept_up = record {
        front = kept.front;
        engines = kept.engines;
        long = kept.long;
        findings = kept.findings;
        checks = inr (subst (λ known. AreChecksOf known c.findings.items next.checks.items) (sym (all_known ps c long)) its);
      };
      long = long;
      stands = λ rs stands. record { records = stands.records; found = stands.found };
    })
