-- The checks of points.
use Rattle.std.specs.Prelude.{◌≡◌, ◌==◌, ◌<◌, ◌++◌, ℕ, All, List, [], filter, filter_map, length, option_map, slice_get, if◌then◌else◌, Option, Some, None}
use Rattle.dk_base.specs.declared.kinds.VarId.{VarId}
use Rattle.dk_hierarchy.specs.Descent.{IsDescent}
use Rattle.dk_hierarchy.specs.Edges.{partners_at}
use Rattle.dk_hierarchy.specs.declared.way.Way.{Way}
use Rattle.dk_points.specs.Table.{Point}
use Rattle.dk_verdicts.specs.declared.checks.Check.{Check}
use Rattle.dk_verdicts.specs.declared.findings.Finding.{Finding}
use Rattle.dk_verdicts.specs.declared.findings.Finding.TheVariants.{Holds}

-- the check that a way gives of a claim's variables, where it leads to the point at place p and each of them has a partner there
abbrev pub check_by : ℕ → List VarId → ℕ → Way → Option Check
check_by claim vars p way =
    if way.point.0 == p then option_map (λ there. record { claim = claim; vars = there; paths = way.paths }) (partners_at way.partners vars)
    else None

-- those that ways give
abbrev pub checks_by : ℕ → List VarId → ℕ → List Way → List Check
checks_by claim vars p ways = filter_map (check_by claim vars p) ways

-- at each point, those that ways give of one more claim
pub record AreWithChecks (claim : ℕ) (vars : List VarId) (ways : List Way) (checks all : List (List Check)) : Type 0 where
  pub long : length all ≡ length checks
  pub each : (p : ℕ) (own others : List Check) → slice_get checks p ≡ Some own
      → slice_get all p ≡ Some others → others ≡ own ++ checks_by claim vars p ways

-- the checks of a claim
abbrev pub checks_on : ℕ → List Check → List Check
checks_on claim checks = filter (λ c. c.claim == claim) checks

-- A claim's checks at each point are those by the ways of a whole descent from the assertion's point.
pub record AreByWays (ps : List Point) (checks : List (List Check)) (claim q : ℕ) (vars : List VarId) : Type 0 where
  pub ways : List Way
  pub descent : IsDescent ps q ways []
  pub by_ways : (p : ℕ) (own : List Check) → slice_get checks p ≡ Some own → checks_on claim own ≡ checks_by claim vars p ways

-- where an assertion is found that isn't violated
abbrev pub AreByWaysIf : List Point → List (List Check) → ℕ → Finding → Type 0
AreByWaysIf ps checks claim (Holds point a tuples) = AreByWays ps checks claim point.0 a.vars
AreByWaysIf ps checks claim _ = Unit {0}

-- The checks of all points, for the first n claims, of which this is found.
pub record AreChecksOfFirst (n : ℕ) (ps : List Point) (findings : List Finding) (checks : List (List Check)) : Type 0 where
  pub long : length checks ≡ length ps
  pub each : (i : ℕ) (f : Finding) → i < n → slice_get findings i ≡ Some f → AreByWaysIf ps checks i f
  pub within : (p : ℕ) (own : List Check) → slice_get checks p ≡ Some own → All (λ c. c.claim < n) own

-- and for all claims
abbrev pub AreChecksOf : List Point → List Finding → List (List Check) → Type 0
AreChecksOf ps findings checks = AreChecksOfFirst (length findings) ps findings checks
