-- What the checker of claims stands for.
use Rattle.std.specs.Prelude.{List, map}
use Rattle.dk_claims.specs.declared.claims.Claim.{Claim}
use Rattle.dk_driver.specs.Consuming.{Record, Told}
use Rattle.dk_points.specs.Table.{Point}
use Rattle.dk_verdicts.specs.Records.{Record as Checked}
use Rattle.dk_verdicts.specs.Standing as verdicts
use Rattle.dk_check.specs.declared.checking.Checking.{Checking}

-- its claims
abbrev pub claims_of : Checking → List Claim
claims_of c = verdicts.claims_of c.checker

-- it is over the points of the table
abbrev pub IsKeptUp : Checking → List Point → Type 0
IsKeptUp c ps = verdicts.IsKeptUp ps c.checker

-- a record, as the checker takes it
abbrev pub checked : Record → Checked
checked r = record { table = r.table; file = r.file; line = r.line; point = r.point; values = r.values }

-- It is over the points that were told, and has taken the records.
pub record StandsFor (c : Checking) (told : Told) : Type 0 where
  pub kept_up : IsKeptUp c told.points
  pub checker : verdicts.StandsFor c.checker told.points (map checked told.records)
