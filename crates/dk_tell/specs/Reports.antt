-- The report of a run, which is read before all other files.
use Rattle.std.specs.Prelude.{ℕ, List, Result}
use Rattle.dk_base.specs.Reading.{LineFault}
use Rattle.dk_claims.specs.Reading.{sections_left}
use Rattle.dk_claims.specs.declared.sections.Section.{Section}
use Rattle.dk_driver.specs.Consuming.{Told}
use Rattle.dk_driver.specs.Files.{File}
use Rattle.dk_driver.specs.Walks.{line_limit, total_limit}
use Rattle.dk_formats.specs.Telling.{IsTold}
use Rattle.dk_formats.specs.declared.formats.Format.{Format}
use Rattle.dk_lines.specs.Left.{lined}

-- the sections of such a file, or of what was delivered of one; or its fault: a line or a byte that is one too many
abbrev pub sections_in : File → Result (List Section) LineFault
sections_in file = sections_left (lined line_limit total_limit 0 file.is_ended file.bytes)

-- The text is the report's sections in the format, their points being those of the table behind all files.
abbrev pub IsToldOf : Format → List Section → Told → List ℕ → Type 0
IsToldOf format sections told text = IsTold format sections told.points text
