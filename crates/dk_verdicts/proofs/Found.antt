-- What is found of claims, a record or some points more.
use Rattle.std.specs.Prelude.{◌≡◌, ◌+◌, ◌≤◌, ◌++◌, ◌∷◌, ℕ, zero, suc, All, List, [], length, slice_get, Some, refl}
use Rattle.std.specs.List.{AllZip}
use Rattle.std.proofs.Common.{◌∙◌, ap, append_assoc, arith, inl, inr, subst, sym}
use Rattle.std.proofs.lemmas.Grind.{flat_map-append}
use Rattle.std.proofs.lemmas.List.{append-nil}
use Rattle.dk_base.specs.declared.values.Value.{Value}
use Rattle.dk_blocks.specs.Fitting.{Extends}
use Rattle.dk_claims.specs.declared.claims.Claim.{Claim}
use Rattle.dk_expr.specs.Violations.{IsViolated, kept_state}
use Rattle.dk_expr.specs.declared.assertions.Assertion.{Assertion}
use Rattle.dk_forms.specs.declared.states.State.{State}
use Rattle.dk_forms.specs.declared.states.State.TheVariants.{Empty}
use Rattle.dk_hierarchy.specs.Samples.{all_vars_of}
use Rattle.dk_instances.proofs.Fitting.{count_of_both, fit_of_both, fit_of_none}
use Rattle.dk_instances.specs.Fits.{fit}
use Rattle.dk_meanings.proofs.RowLaws.{laws_of}
use Rattle.dk_meanings.specs.Meanings.{state_of}
use Rattle.dk_points.specs.Table.{Point}
use Rattle.dk_presence.specs.Patterns.{capped, count_of}
use Rattle.dk_template.specs.Joins.{joined}
use Rattle.dk_template.specs.Proper.{IsProper}
use Rattle.dk_template.specs.Templates.{form_of}
use Rattle.dk_verdicts.proofs.Asserted.{none_reach, read_testable, still_asserted, still_unknown}
use Rattle.dk_verdicts.proofs.Fronts.{never_with_more, never_without, upheld_by_all}
use Rattle.dk_verdicts.proofs.States.{kept_behind_both, unviolated_by_both, violated_by_both}
use Rattle.dk_verdicts.proofs.Taken.{kept_same, still}
use Rattle.dk_verdicts.specs.Reading.{IsReread}
use Rattle.dk_verdicts.specs.Records.{Record, reaching, reaching_all}
use Rattle.dk_verdicts.specs.Standing.{HoldsSoFar, IsFound, IsOf}
use Rattle.dk_verdicts.specs.Tests.{IsTestable, Takes, state_behind, with_tuples}
use Rattle.dk_verdicts.specs.Verdicts.{IsAsserted, IsVerdictOnRead, Violates, state_with}
use Rattle.dk_verdicts.specs.declared.findings.Finding.{Finding}
use Rattle.dk_verdicts.specs.declared.findings.Finding.TheVariants.{Holds, Violated, Unknown}
use Rattle.dk_verdicts.specs.declared.verdicts.Verdict.TheVariants as verdict

pub one_record_more : (q : ℕ) (rs : List Record) (r : Record) → reaching_all q (rs ++ r ∷ []) ≡ reaching_all q rs ++ reaching q r
one_record_more q rs r = flat_map-append (reaching q) rs (r ∷ []) ∙ ap (λ (s : List (List Value)). reaching_all q rs ++ s) (append-nil (reaching q r))

-- ---- a record more
-- what its tuples say of what is asserted is what its samples say
abbrev pub Tell : List (List Value) → Record → Finding → Type 0
Tell ts r (Holds point a n) =
    (fit a.row a.vars (reaching point.0 r) ≡ state_of a.row ts) × (count_of a.vars (reaching point.0 r) ≡ capped (length ts))
Tell ts r _ = Unit {0}

-- a violation stays the first
pub violation_stays : (ps : List Point) (rs more : List Record) (claim : Claim) (file line : ℕ) → IsVerdictOnRead ps rs claim (verdict.Violated file line)
    → IsVerdictOnRead ps (rs ++ more) claim (verdict.Violated file line)
violation_stays ps rs more claim file line (q, a, asserted, (r, first, at)) = (
  q,
  a,
  asserted,
  (
    r,
    record {
      before = first.before;
      behind = first.behind ++ more;
      is_one = ap (λ (l : List Record). l ++ more) first.is_one ∙ append_assoc first.before (r ∷ first.behind) more;
      violated = first.violated;
      first = first.first;
    },
    at,
  ),
)

module _ (ps : List Point) (rs : List Record) (r : Record) (ts : List (List Value)) (claim : Claim) where
  module _ (q n : ℕ) (read : Assertion) (asserted : IsAsserted ps claim q read) where
    testable : IsTestable read
    testable = read_testable (all_vars_of ps q) claim.text read asserted.is_read

    -- of the samples before, and of the record's
    abbrev x : State
    x = fit read.row read.vars (reaching_all q rs)

    abbrev y : State
    y = fit read.row read.vars (reaching q r)

    abbrev now : Assertion
    now = record read { state = kept_state read.state (state_with read (reaching_all q rs)) }

    module _ (tell : y ≡ state_of read.row ts) (number : count_of read.vars (reaching q r) ≡ capped (length ts)) (so_far : HoldsSoFar read q rs now n) (proper : IsProper (form_of read.row) (state_of read.row ts)) where
      y_proper : IsProper (form_of read.row) y
      y_proper = subst (IsProper (form_of read.row)) (sym tell) proper

      upheld : ¬ Violates read (reaching_all q rs)
      upheld = upheld_by_all read q rs so_far.holds

      fits_behind : fit read.row read.vars (reaching_all q (rs ++ r ∷ [])) ≡ joined (form_of read.row) x y
      fits_behind = ap (fit read.row read.vars) (one_record_more q rs r) ∙ fit_of_both read.row testable.row read.vars (reaching_all q rs) (reaching q r)

      behind : joined (form_of read.row) read.state (joined (form_of read.row) x y) ≡ state_with read (reaching_all q (rs ++ r ∷ []))
      behind = ap (joined (form_of read.row) read.state) (sym fits_behind)

      by_tuples : joined (form_of read.row) now.state y ≡ state_behind now ts
      by_tuples = ap (joined (form_of read.row) now.state) tell

      violated : IsViolated now.state (state_behind now ts) → Violates read (reaching_all q (rs ++ r ∷ []))
      violated v =
          subst (IsViolated read.state) behind
          (violated_by_both (form_of read.row) (laws_of read.row testable.row).joins read.state testable.proper testable.code x y so_far.proper y_proper upheld
          (subst (IsViolated now.state) (sym by_tuples) v))

      module _ (not : ¬ IsViolated now.state (state_behind now ts)) where
        none : ¬ IsViolated now.state (joined (form_of read.row) now.state y)
        none v = not (subst (IsViolated now.state) by_tuples v)

        unviolated : ¬ Violates read (reaching_all q (rs ++ r ∷ []))
        unviolated v =
            unviolated_by_both (form_of read.row) (laws_of read.row testable.row).joins read.state testable.proper testable.code x y so_far.proper y_proper upheld none
            (subst (IsViolated read.state) (sym behind) v)

        kept_on : kept_state now.state (state_behind now ts) ≡ kept_state read.state (state_with read (reaching_all q (rs ++ r ∷ [])))
        kept_on =
            ap (kept_state now.state) (sym by_tuples)
            ∙ kept_behind_both (form_of read.row) (laws_of read.row testable.row).joins read.state testable.proper testable.code x y so_far.proper y_proper upheld none
            ∙ ap (kept_state read.state) behind

        counted : capped (n + length ts) ≡ count_of read.vars (reaching_all q (rs ++ r ∷ []))
        counted =
            added n (length ts) (count_of read.vars (reaching_all q rs)) (count_of read.vars (reaching q r)) so_far.counted number
            ∙ sym (ap (count_of read.vars) (one_record_more q rs r) ∙ count_of_both read.vars (reaching_all q rs) (reaching q r))
          where
            added : (n l a b : ℕ) → n ≡ a → b ≡ capped l → capped (n + l) ≡ capped (a + b)
            added n l a b first second = omega (arith, first, second)

        goes_on : HoldsSoFar read q (rs ++ r ∷ []) (with_tuples now ts) (capped (n + length ts))
        goes_on = record {
          is = ap (λ s. record read { state = s }) kept_on;
          holds = never_with_more read q rs r so_far.holds unviolated;
          proper = subst (IsProper (form_of read.row)) (sym fits_behind) ((laws_of read.row testable.row).joins.closed x y so_far.proper y_proper);
          counted = counted;
        }

  -- what is found behind it
  pub found_behind : (file line : ℕ) (f g : Finding) → r.file ≡ file → r.line ≡ line → Tell ts r f → Takes file line ts f g → IsFound ps rs claim f → IsFound ps (rs ++ r ∷ []) claim g
  found_behind file line Unknown g at_file at_line tell takes found = subst (IsFound ps (rs ++ r ∷ []) claim) (sym takes) found
  found_behind file line (Violated x y) g at_file at_line tell takes found = subst (IsFound ps (rs ++ r ∷ []) claim) (sym takes) (violation_stays ps rs (r ∷ []) claim x y found)
  found_behind file line (Holds point a n) g at_file at_line tell takes (read, asserted, so_far) = go so_far.is tell takes so_far
    where
      before : Assertion → Type 0
      before b = Tell ts r (Holds point b n) → Takes file line ts (Holds point b n) g → HoldsSoFar read point.0 rs b n → IsFound ps (rs ++ r ∷ []) claim g

      here : before (record read { state = kept_state read.state (state_with read (reaching_all point.0 rs)) })
      here tell (proper, inl (not, is)) so_far =
          subst (IsFound ps (rs ++ r ∷ []) claim) (sym is) (read, asserted, goes_on point.0 n read asserted tell.0 tell.1 so_far proper not)
      here tell (proper, inr (broken, is)) so_far =
          subst (IsFound ps (rs ++ r ∷ []) claim) (sym is) (
            point.0,
            read,
            asserted,
            (
              r,
              record {
                before = rs;
                behind = [];
                is_one = refl;
                violated = violated point.0 n read asserted tell.0 tell.1 so_far proper broken;
                first = so_far.holds;
              },
              (at_file, at_line),
            ),
          )

      go : a ≡ record read { state = kept_state read.state (state_with read (reaching_all point.0 rs)) } → before a
      go e = subst before (sym e) here

-- ---- points more
module _ (known ps : List Point) (extends : Extends known ps) (rs : List Record) (are : All (IsOf known) rs) (claim : Claim) where
  -- an assertion of a new point, which no record reaches
  begins : (q : ℕ) (a : Assertion) → length known ≤ q → IsAsserted ps claim q a → HoldsSoFar a q rs a 0
  begins q a past asserted =
      let testable = read_testable (all_vars_of ps q) claim.text a asserted.is_read in
      let laws = laws_of a.row testable.row in
      let none : reaching_all q rs ≡ [] = none_reach known q rs past are in
      let nothing : fit a.row a.vars (reaching_all q rs) ≡ Empty = ap (fit a.row a.vars) none ∙ fit_of_none a.row testable.row a.vars in
      let same : state_with a (reaching_all q rs) ≡ a.state =
      ap (joined (form_of a.row) a.state) nothing ∙ laws.joins.comm a.state Empty testable.proper laws.joins.empty_proper ∙ laws.joins.neutral a.state testable.proper in
      record {
        is = ap (λ s. record a { state = s }) (sym (kept_same a.state (state_with a (reaching_all q rs)) same));
        holds = never_without a q rs none (subst (λ (s : List (List Value)). ¬ Violates a s) none (still a.state (state_with a (reaching_all q rs)) same));
        proper = subst (IsProper (form_of a.row)) (sym nothing) laws.joins.empty_proper;
        counted = sym (ap (count_of a.vars) none);
      }

  still_violated_there : (file line : ℕ) → IsVerdictOnRead known rs claim (verdict.Violated file line) → IsVerdictOnRead ps rs claim (verdict.Violated file line)
  still_violated_there file line (q, a, asserted, more) = (q, a, still_asserted known ps extends claim q a asserted, more)

  pub found_reread : (f g : Finding) → IsReread (length known) ps claim f g → IsFound known rs claim f → IsFound ps rs claim g
  found_reread Unknown Unknown reread found = still_unknown known ps extends claim found reread
  found_reread Unknown (Holds point a n) (asserted, past, none) found =
      (a, asserted, subst (HoldsSoFar a point.0 rs a) (sym none) (begins point.0 a past asserted))
  found_reread Unknown (Violated x y) reread found = absurd reread
  found_reread (Violated x y) g reread found = subst (IsFound ps rs claim) (sym reread) (still_violated_there x y found)
  found_reread (Holds point a n) g reread (read, asserted, so_far) =
      subst (IsFound ps rs claim) (sym reread) (read, still_asserted known ps extends claim point.0 read asserted, so_far)

-- ---- of each claim

pub all_found : (P Q : Claim → Finding → Type 0) (claims : List Claim) (old new : List Finding) → length new ≡ length old
    → ((i : ℕ) (claim : Claim) (f g : Finding) → slice_get claims i ≡ Some claim → slice_get old i ≡ Some f → slice_get new i ≡ Some g → P claim f → Q claim g)
    → AllZip P claims old → AllZip Q claims new
all_found P Q [] [] [] long step all = tt
all_found P Q [] [] (g ∷ new) long step all = absurd (omega (arith, long))
all_found P Q [] (f ∷ old) new long step all = absurd all
all_found P Q (c ∷ claims) [] new long step all = absurd all
all_found P Q (c ∷ claims) (f ∷ old) [] long step all = absurd (omega (arith, long))
all_found P Q (c ∷ claims) (f ∷ old) (g ∷ new) long step all = (
  step zero c f g refl refl refl all.0,
  all_found P Q claims old new (omega (arith, long)) (λ i claim f g a b d. step (suc i) claim f g a b d) all.1,
)
