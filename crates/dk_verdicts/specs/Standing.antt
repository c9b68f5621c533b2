-- What a checker keeps, and which records it stands for.
use Rattle.std.specs.Prelude.{◌≡◌, ◌<◌, ◌≤◌, ◌⊎◌, ℕ, All, IsTrue, List, [], length, slice_get, take, Some}
use Rattle.std.specs.List.{AllZip}
use Rattle.dk_blocks.specs.Fitting.{Extends}
use Rattle.dk_claims.specs.declared.claims.Claim.{Claim}
use Rattle.dk_engine.specs.Reading.Levels.{Whole}
use Rattle.dk_expr.specs.Violations.{kept_state}
use Rattle.dk_expr.specs.declared.assertions.Assertion.{Assertion}
use Rattle.dk_instances.specs.Fits.{fit}
use Rattle.dk_hierarchy.specs.Samples.{all_vars_of}
use Rattle.dk_hierarchy.specs.Standing.{AreEnginesOf}
use Rattle.dk_points.specs.Table.{Point}
use Rattle.dk_presence.specs.Patterns.{capped, count_of}
use Rattle.dk_template.specs.Admitted.{admits}
use Rattle.dk_template.specs.Proper.{IsProper}
use Rattle.dk_template.specs.Templates.{form_of}
use Rattle.dk_template.specs.declared.grammar.Grammar.TheVariants.{Two}
use Rattle.dk_verdicts.specs.Records.{Record, reaching_all}
use Rattle.dk_verdicts.specs.Checks.{AreChecksOf}
use Rattle.dk_verdicts.specs.Tests.{IsTestable}
use Rattle.dk_verdicts.specs.Verdicts.{IsAsserted, IsNeverViolated, IsUnknown, IsVerdictOnRead, state_with}
use Rattle.dk_verdicts.specs.declared.checker.Checker.{Checker}
use Rattle.dk_verdicts.specs.declared.findings.Finding.{Finding}
use Rattle.dk_verdicts.specs.declared.findings.Finding.TheVariants as finding
use Rattle.dk_verdicts.specs.declared.verdicts.Verdict.{Verdict}
use Rattle.dk_verdicts.specs.declared.verdicts.Verdict.TheVariants as verdict

-- the claims that are checked, in order
abbrev pub claims_of : Checker → List Claim
claims_of c = c.claims

-- the points of the table that were there when a record or the verdicts were last asked for: those whose claims are read
abbrev pub known_of : List Point → Checker → List Point
known_of ps c = take (length c.engines.items) ps

-- ---- what is kept
-- the engines are those of the points, without samples, by the second grammar
pub record AreUnfed (ps : List Point) (engines : List Whole) : Type 0 where
  pub are : AreEnginesOf ps engines
  pub by_grammar : (i : ℕ) (engine : Whole) → slice_get engines i ≡ Some engine → engine.grammar ≡ Two

-- an assertion of the point at a place
pub record IsAssertionOf (ps : List Point) (p : ℕ) (a : Assertion) : Type 0 where
  pub within : p < length ps
  pub vars : IsTrue (admits a.row (all_vars_of ps p) a.vars)
  pub testable : IsTestable a

-- what is found of a claim is of a point of the table
abbrev pub IsFindingOf : List Point → Finding → Type 0
IsFindingOf ps (finding.Holds point a tuples) = IsAssertionOf ps point.0 a × (tuples ≡ capped tuples)
IsFindingOf ps _ = Unit {0}

abbrev pub AreFindingsOf : List Point → List Finding → Type 0
AreFindingsOf ps findings = (i : ℕ) (f : Finding) → slice_get findings i ≡ Some f → IsFindingOf ps f

-- What is kept is over the points of this table; those that are new to it may be left out.
pub record IsKeptUp (ps : List Point) (c : Checker) : Type 0 where
  pub front : length c.engines.items ≤ length ps
  pub engines : AreUnfed (known_of ps c) c.engines.items
  pub long : length c.findings.items ≡ length (claims_of c)
  pub findings : AreFindingsOf (known_of ps c) c.findings.items
  pub checks : (c.checks.items ≡ []) ⊎ AreChecksOf (known_of ps c) c.findings.items c.checks.items

-- the verdict that a finding comes to
abbrev pub verdict_of : Finding → Verdict
verdict_of finding.Unknown = verdict.Unknown
verdict_of (finding.Holds point a tuples) = verdict.Holds tuples
verdict_of (finding.Violated file line) = verdict.Violated file line

-- ---- what it stands for
-- The assertion that was read holds of the samples so far. What is kept of it has the state that its tests have left.
pub record HoldsSoFar (read : Assertion) (q : ℕ) (rs : List Record) (a : Assertion) (tuples : ℕ) : Type 0 where
  pub is : a ≡ record read { state = kept_state read.state (state_with read (reaching_all q rs)) }
  pub holds : IsNeverViolated read q rs
  pub proper : IsProper (form_of read.row) (fit read.row read.vars (reaching_all q rs))
  pub counted : tuples ≡ count_of read.vars (reaching_all q rs)

-- what is found of a claim, of the points of a table and some records
abbrev pub IsFound : List Point → List Record → Claim → Finding → Type 0
IsFound ps rs claim finding.Unknown = IsUnknown ps claim
IsFound ps rs claim (finding.Holds point a tuples) =
    (read : Assertion) × IsAsserted ps claim point.0 read × HoldsSoFar read point.0 rs a tuples
IsFound ps rs claim (finding.Violated file line) = IsVerdictOnRead ps rs claim (verdict.Violated file line)

-- the record's point is one of its table, whose points are the first ones of this one
pub record IsOf (ps : List Point) (r : Record) : Type 0 where
  pub front : Extends r.table ps
  pub within : r.point < length r.table

-- The checker stands for these records, over the points of this table.
pub record StandsFor (c : Checker) (ps : List Point) (rs : List Record) : Type 0 where
  pub records : All (IsOf (known_of ps c)) rs
  pub found : AllZip (IsFound (known_of ps c) rs) (claims_of c) c.findings.items
