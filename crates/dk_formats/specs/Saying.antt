-- What the lines of a report say.
use Rattle.std.specs.Prelude.{◌≡◌, ℕ, All, List, [], Option, Some, None, map}
use Rattle.std.specs.Option.{option_map_or}
use Rattle.dk_base.specs.declared.kinds.VarInfo.{VarInfo}
use Rattle.dk_claims.specs.declared.sections.ReportLine.{ReportLine}
use Rattle.dk_claims.specs.declared.sections.Section.{Section}
use Rattle.dk_derive.specs.Laws.{all_vars_of}
use Rattle.dk_expr.specs.Reads.{HasNone, IsRead}
use Rattle.dk_expr.specs.declared.assertions.Assertion.{Assertion}
use Rattle.dk_graph.specs.Names.{place_of}
use Rattle.dk_points.specs.Table.{Point, names}

-- what a text says of variables: the first instance that has it, if one has
abbrev pub Says : List VarInfo → List ℕ → Option Assertion → Type 0
Says infos text None = HasNone infos text
Says infos text (Some a) = IsRead infos text a

-- a line of a report, and what it says
pub record Said : Type 0 where
  pub line : ReportLine
  pub says : Option Assertion

-- of each line what it says of the variables
pub record AreSaid (infos : List VarInfo) (lines : List ReportLine) (said : List Said) : Type 0 where
  pub lines_are : map (λ (s : Said). s.line) said ≡ lines
  pub each : All (λ (s : Said). Says infos s.line.text s.says) said

-- the variables of the point of this name, derived ones included; none where the table has no such point
abbrev pub vars_under : List Point → List ℕ → List VarInfo
vars_under ps name = option_map_or (all_vars_of ps) (place_of (names ps) name) []

-- a section of a report, and what each of its lines says
pub record SaidSection : Type 0 where
  pub section : Section
  pub lines : List Said

-- of each section what its lines say of the variables of its point
pub record AreSaidSections (ps : List Point) (sections : List Section) (said : List SaidSection) : Type 0 where
  pub sections_are : map (λ (s : SaidSection). s.section) said ≡ sections
  pub each : All (λ (s : SaidSection). AreSaid (vars_under ps s.section.point) s.section.lines s.lines) said
