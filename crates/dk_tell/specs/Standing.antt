-- What the report stands for while files are read: of what they tell it says nothing.
use Rattle.std.specs.Prelude.{List}
use Rattle.dk_claims.specs.declared.sections.Section.{Section}
use Rattle.dk_driver.specs.Consuming.{Told}
use Rattle.dk_points.specs.Table.{Point}
use Rattle.dk_tell.specs.declared.reported.Reported.{Reported}

abbrev pub sections_of : Reported → List Section
sections_of reported = reported.sections

abbrev pub Fits : Reported → List Point → Type 0
Fits reported ps = Unit {0}

abbrev pub Stands : Reported → Told → Type 0
Stands reported told = Unit {0}
