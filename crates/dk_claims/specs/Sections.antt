-- What the lines of a report say, heading by heading.
use Rattle.std.specs.Prelude.{◌&&◌, ◌||◌, ◌++◌, ℕ, Bool, false, List, [], ◌∷◌, None, if◌then◌else◌, is_none, map}
use Rattle.dk_base.specs.Pieces.{is_empty}
use Rattle.dk_claims.specs.Claims.{is_heading, is_remark, is_ruler, written_lines}
use Rattle.dk_claims.specs.Counts.{last_count, without_count}
use Rattle.dk_claims.specs.declared.claims.Claim.{Claim}
use Rattle.dk_claims.specs.declared.sections.ReportLine.{ReportLine}
use Rattle.dk_claims.specs.declared.sections.Section.{Section}

-- ---- lines
-- a line without its last count, and the number that the count tells
abbrev pub report_line : List ℕ → ReportLine
report_line line = record { text = without_count line; samples = last_count line }

-- what a line that isn't blank says below a heading, if it says something
abbrev pub said_in : Bool → List ℕ → List ReportLine
said_in behind_ruler line = if behind_ruler || is_ruler line || is_remark line then [] else report_line line ∷ []

-- ---- sections
-- the section in front of the first heading, of which no line was read
abbrev pub front_section : Section
front_section = record { point = []; samples = None; lines = [] }

-- the section that this heading begins
abbrev pub section_at : List ℕ → Section
section_at heading = record { point = without_count heading; samples = last_count heading; lines = [] }

-- with what one line more says
abbrev pub with_line : Bool → List ℕ → Section → Section
with_line behind_ruler line section = record section { lines = section.lines ++ said_in behind_ruler line }

-- no name, no number and no line
abbrev pub is_nothing : Section → Bool
is_nothing section = is_empty section.point && (is_none section.samples && is_empty section.lines)

-- The section, at its end. Where no line stands in front of the first heading, no section does.
abbrev pub ended : Section → List Section
ended section = if is_nothing section then [] else section ∷ []

-- the sections of lines, none of which is blank, from this one on, and behind a line of `=` or not
unfoldable pub sections_below : Bool → Section → List (List ℕ) → List Section
sections_below behind_ruler section [] = ended section
sections_below behind_ruler section (line ∷ lines) =
    if is_heading behind_ruler line then ended section ++ sections_below false (section_at line) lines
    else sections_below (is_ruler line) (with_line behind_ruler line section) lines

-- the sections of all lines of a file: a heading and the lines below it, up to the next heading, are one
unfoldable pub sections_of : List (List ℕ) → List Section
sections_of lines = sections_below false front_section (written_lines lines)

-- ---- claims
-- what a section claims of its point
abbrev pub section_claims : Section → List Claim
section_claims section = map (λ (line : ReportLine). record { point = section.point; text = line.text }) section.lines
