-- What tests of a sample do to what is found.
use Rattle.std.specs.Prelude.{◌≡◌, ◌+◌, ◌<◌, ◌≤◌, ◌⊎◌, ℕ, false, true, All, List, [], ◌∷◌, flat_map, length, slice_get, Some}
use Rattle.dk_base.specs.declared.kinds.VarId.{VarId}
use Rattle.dk_base.specs.declared.values.Value.{Value}
use Rattle.dk_expr.specs.Violations.{IsViolated, kept_state}
use Rattle.dk_expr.specs.declared.assertions.Assertion.{Assertion}
use Rattle.dk_forms.specs.declared.states.State.{State}
use Rattle.dk_forms.specs.declared.states.State.TheVariants.{Empty}
use Rattle.dk_hierarchy.specs.Ways.{repeated_samples}
use Rattle.dk_instances.specs.Fits.{is_whole, tuple_in, tuples_of}
use Rattle.dk_meanings.specs.Meanings.{state_of}
use Rattle.dk_presence.specs.Patterns.{capped}
use Rattle.dk_template.specs.Joins.{joined}
use Rattle.dk_template.specs.Proper.{IsProper}
use Rattle.dk_template.specs.Rows.{IsTuple}
use Rattle.dk_template.specs.Templates.{IsRow, form_of, role_kinds}
use Rattle.dk_template.specs.declared.grammar.RowId.{RowId}
use Rattle.dk_template.specs.declared.templates.StateForm.TheVariants as form
use Rattle.dk_verdicts.specs.Checks.{checks_on}
use Rattle.dk_verdicts.specs.declared.checks.Check.{Check}
use Rattle.dk_verdicts.specs.declared.findings.Finding.{Finding}
use Rattle.dk_verdicts.specs.declared.findings.Finding.TheVariants.{Holds, Violated}
use Rattle.dk_verdicts.specs.declared.testing.Outcome.{Outcome}
use Rattle.dk_verdicts.specs.declared.testing.Outcome.TheVariants as outcome

-- ---- a tuple
-- the state of an assertion joined with tuples
abbrev pub state_behind : Assertion → List (List Value) → State
state_behind a tuples = joined (form_of a.row) a.state (state_of a.row tuples)

-- the assertion behind tuples that don't violate it
abbrev pub with_tuples : Assertion → List (List Value) → Assertion
with_tuples a tuples = record a { state = kept_state a.state (state_behind a tuples) }

-- what a test of a tuple tells, and what it leaves of the assertion
abbrev pub Tells : Assertion → List Value → Outcome → Assertion → Type 0
Tells a tuple outcome.Missing b = (b ≡ a) × (is_whole tuple ≡ false)
Tells a tuple outcome.Kept b =
    (b ≡ with_tuples a (tuple ∷ [])) × (is_whole tuple ≡ true) × (¬ IsViolated a.state (state_behind a (tuple ∷ [])))
Tells a tuple outcome.Violated b = (is_whole tuple ≡ true) × IsViolated a.state (state_behind a (tuple ∷ []))

-- An assertion that tuples can be tested with. Nothing is known yet only of hash codes.
pub record IsTestable (a : Assertion) : Type 0 where
  pub row : IsRow a.row
  pub proper : IsProper (form_of a.row) a.state
  pub code : a.state ≡ Empty → form_of a.row ≡ form.Code

-- the values of these variables in the sample are a tuple of the row, if none is missing
pub record CanTest (row : RowId) (vars : List VarId) (sample : List Value) : Type 0 where
  pub some : 0 < length vars
  pub few : length vars ≤ 3
  pub within : All (λ v. v.0 < length sample) vars
  pub tuple : is_whole (tuple_in vars sample) ≡ true → IsTuple (role_kinds row) (tuple_in vars sample)

-- ---- what is found
-- What is found behind more tuples of a record of this line of this file: the assertion goes on, with as many tuples more; or it is
-- violated. What isn't asserted, or was violated before, stays.
abbrev pub Takes : ℕ → ℕ → List (List Value) → Finding → Finding → Type 0
Takes file line tuples (Holds point a n) g =
    IsProper (form_of a.row) (state_of a.row tuples)
    × (((¬ IsViolated a.state (state_behind a tuples)) × (g ≡ Holds point (with_tuples a tuples) (capped (n + length tuples))))
    ⊎ (IsViolated a.state (state_behind a tuples) × (g ≡ Violated file line)))
Takes file line tuples f g = g ≡ f

-- the tuples that a check gives of a sample: the one of its variables, if no value is missing, once for each path
abbrev pub tuples_by : List Value → Check → List (List Value)
tuples_by sample check = tuples_of check.vars (repeated_samples check.paths (sample ∷ []))

-- those that checks give
abbrev pub tuples_by_all : List Value → List Check → List (List Value)
tuples_by_all sample checks = flat_map (tuples_by sample) checks

-- what is found can be tested
abbrev pub CanGoOn : Finding → Type 0
CanGoOn (Holds point a n) = IsTestable a × (n ≡ capped n)
CanGoOn _ = Unit {0}

abbrev pub CanAllGoOn : List Finding → Type 0
CanAllGoOn findings = (i : ℕ) (f : Finding) → slice_get findings i ≡ Some f → CanGoOn f

-- and a check tests it
abbrev pub Fits : List Value → Check → Finding → Type 0
Fits sample c (Holds point a n) = CanTest a.row c.vars sample × (0 < c.paths)
Fits sample c _ = Unit {0}

-- each check is of one of the claims, and tests what is found of it
abbrev pub FitAll : List Value → List Check → List Finding → Type 0
FitAll sample checks findings =
    (k : ℕ) (c : Check) → slice_get checks k ≡ Some c
    → (c.claim < length findings) × ((f : Finding) → slice_get findings c.claim ≡ Some f → Fits sample c f)

-- what is found of each claim behind the tuples that its checks give
pub record AreTaken (file line : ℕ) (sample : List Value) (checks : List Check) (old new : List Finding) : Type 0 where
  pub long : length new ≡ length old
  pub each : (i : ℕ) (f g : Finding) → slice_get old i ≡ Some f → slice_get new i ≡ Some g
      → Takes file line (tuples_by_all sample (checks_on i checks)) f g
