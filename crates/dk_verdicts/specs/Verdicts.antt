-- The verdict on a claim.
use Rattle.std.specs.Prelude.{◌≡◌, ◌++◌, ◌∷◌, [], ℕ, List, Some}
use Rattle.dk_base.specs.declared.values.Value.{Value}
use Rattle.dk_claims.specs.declared.claims.Claim.{Claim}
use Rattle.dk_expr.specs.Reads.{HasNone, IsRead}
use Rattle.dk_expr.specs.Violations.{IsViolated}
use Rattle.dk_expr.specs.declared.assertions.Assertion.{Assertion}
use Rattle.dk_forms.specs.declared.states.State.{State}
use Rattle.dk_graph.specs.Names.{place_of}
use Rattle.dk_hierarchy.specs.Samples.{all_vars_of}
use Rattle.dk_instances.specs.Fits.{fit}
use Rattle.dk_points.specs.Table.{Point, names}
use Rattle.dk_presence.specs.Patterns.{count_of}
use Rattle.dk_template.specs.Joins.{joined}
use Rattle.dk_template.specs.Templates.{form_of}
use Rattle.dk_verdicts.specs.Records.{Record, reaching_all}
use Rattle.dk_verdicts.specs.declared.verdicts.Verdict.{Verdict}
use Rattle.dk_verdicts.specs.declared.verdicts.Verdict.TheVariants.{Holds, Violated, Unknown}

-- ---- on an assertion
-- the assertion's state joined with the tuples of its variables in the samples
abbrev pub state_with : Assertion → List (List Value) → State
state_with a samples = joined (form_of a.row) a.state (fit a.row a.vars samples)

-- The samples violate the assertion: with their tuples its state isn't the same or, where it is Empty, is Broken.
abbrev pub Violates : Assertion → List (List Value) → Type 0
Violates a samples = IsViolated a.state (state_with a samples)

-- up to none of the records the samples that reach the point violate the assertion
abbrev pub IsNeverViolated : Assertion → ℕ → List Record → Type 0
IsNeverViolated a q rs = (front behind : List Record) → rs ≡ front ++ behind → ¬ Violates a (reaching_all q front)

-- the first of the records with which the samples that reach the point so far violate the assertion
pub record IsFirstViolation (a : Assertion) (q : ℕ) (rs : List Record) (r : Record) : Type 0 where
  pub before : List Record
  pub behind : List Record
  pub is_one : rs ≡ before ++ r ∷ behind
  pub violated : Violates a (reaching_all q (before ++ r ∷ []))
  pub first : IsNeverViolated a q before

-- the record is of this line of this file
abbrev pub IsAt : ℕ → ℕ → Record → Type 0
IsAt file line r = (r.file ≡ file) × (r.line ≡ line)

-- An assertion of the point is violated at the first record that violates it. If there is none it holds, of as many tuples without a
-- missing value as the records' samples have, at most 2^64 - 1.
abbrev pub IsVerdictOn : Assertion → ℕ → List Record → Verdict → Type 0
IsVerdictOn a q rs (Holds tuples) = IsNeverViolated a q rs × (tuples ≡ count_of a.vars (reaching_all q rs))
IsVerdictOn a q rs (Violated file line) = (r : Record) × IsFirstViolation a q rs r × IsAt file line r
IsVerdictOn a q rs Unknown = ⊥

-- ---- on a claim
-- the point of the table that has the claim's name has an instance with its text: this assertion is read of it
pub record IsAsserted (ps : List Point) (claim : Claim) (q : ℕ) (a : Assertion) : Type 0 where
  pub named : place_of (names ps) claim.point ≡ Some q
  pub is_read : IsRead (all_vars_of ps q) claim.text a

-- no point of the table has the claim's name and an instance with its text
abbrev pub IsUnknown : List Point → Claim → Type 0
IsUnknown ps claim = (q : ℕ) → place_of (names ps) claim.point ≡ Some q → HasNone (all_vars_of ps q) claim.text

-- the verdict of these records on what is asserted
abbrev pub IsVerdictOnRead : List Point → List Record → Claim → Verdict → Type 0
IsVerdictOnRead ps rs claim verdict = (q : ℕ) × (a : Assertion) × IsAsserted ps claim q a × IsVerdictOn a q rs verdict

-- The verdict on a claim, of the table behind all blocks and all their records.
abbrev pub IsVerdict : List Point → List Record → Claim → Verdict → Type 0
IsVerdict ps rs claim Unknown = IsUnknown ps claim
IsVerdict ps rs claim verdict = IsVerdictOnRead ps rs claim verdict
