-- What reading claims finds.
use Rattle.std.specs.Prelude.{◌≡◌, ◌≤◌, ℕ, List, length, slice_get, Some}
use Rattle.dk_claims.specs.declared.claims.Claim.{Claim}
use Rattle.dk_expr.specs.Naming.{AreUnderNames}
use Rattle.dk_expr.specs.Reads.{HasNone}
use Rattle.dk_graph.specs.Names.{place_of}
use Rattle.dk_hierarchy.specs.Samples.{all_vars_of}
use Rattle.dk_points.specs.Table.{Point, names}
use Rattle.dk_verdicts.specs.Verdicts.{IsAsserted}
use Rattle.dk_verdicts.specs.declared.findings.Finding.{Finding}
use Rattle.dk_verdicts.specs.declared.findings.Finding.TheVariants.{Holds, Violated, Unknown}
use Rattle.dk_verdicts.specs.declared.reading.Listed.{Listed}

-- the names are those of the point's variables
abbrev pub AreListed : List Point → Listed → Type 0
AreListed ps listed = AreUnderNames (all_vars_of ps listed.point.0) listed.names

-- no point from this place on has the claim's name and an instance with its text
abbrev pub IsUnknownFrom : ℕ → List Point → Claim → Type 0
IsUnknownFrom from ps claim = (q : ℕ) → place_of (names ps) claim.point ≡ Some q → from ≤ q → HasNone (all_vars_of ps q) claim.text

-- what is found of a claim, of the points from this place on
abbrev pub IsFoundFrom : ℕ → List Point → Claim → Finding → Type 0
IsFoundFrom from ps claim Unknown = IsUnknownFrom from ps claim
IsFoundFrom from ps claim (Holds point a tuples) = IsAsserted ps claim point.0 a × (from ≤ point.0) × (tuples ≡ 0)
IsFoundFrom from ps claim (Violated file line) = ⊥

-- of a claim of which nothing was found
abbrev pub IsReread : ℕ → List Point → Claim → Finding → Finding → Type 0
IsReread from ps claim Unknown g = IsFoundFrom from ps claim g
IsReread from ps claim f g = g ≡ f

-- of each claim
pub record AreReread (from : ℕ) (ps : List Point) (claims : List Claim) (old new : List Finding) : Type 0 where
  pub long : length new ≡ length old
  pub each : (i : ℕ) (claim : Claim) (f g : Finding) → slice_get claims i ≡ Some claim → slice_get old i ≡ Some f → slice_get new i ≡ Some g
      → IsReread from ps claim f g
