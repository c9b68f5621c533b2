-- What reports in a format come to.
use Rattle.std.specs.Prelude.{◌≡◌, ℕ, List}
use Rattle.dk_claims.specs.declared.sections.Section.{Section}
use Rattle.dk_points.specs.Table.{Point}
use Rattle.dk_formats.specs.Telling.{IsTold}
use Rattle.dk_formats.specs.declared.formats.Format.{Format}

-- a report has at most one text in a format
abbrev pub ReportsAreToldOnce : Type 0
ReportsAreToldOnce =
    (format : Format) (sections : List Section) (ps : List Point) (text other : List ℕ) → IsTold format sections ps text
    → IsTold format sections ps other → text ≡ other
