-- A report in a format.
use Rattle.std.specs.Prelude.{◌≡◌, ◌++◌, ◌∷◌, ℕ, List, [], Option, Some, None, codes, flat_map, map}
use Rattle.dk_base.specs.declared.kinds.VarInfo.{VarInfo}
use Rattle.dk_claims.specs.declared.sections.Section.{Section}
use Rattle.dk_expr.specs.declared.assertions.Assertion.{Assertion}
use Rattle.dk_functions.specs.Functions.{assertion_if, closing, comment_if, opening, preamble}
use Rattle.dk_json.specs.Lines.{no_row_fields, object_of, row_fields, text_fields, written}
use Rattle.dk_json.specs.Trees.{Field}
use Rattle.dk_languages.specs.Bases.{bases}
use Rattle.dk_languages.specs.Tellings.{telling}
use Rattle.dk_languages.specs.declared.languages.Language.{Language}
use Rattle.dk_page.specs.Groups.{group_of}
use Rattle.dk_page.specs.Ids.{id_after}
use Rattle.dk_page.specs.Pages.{page}
use Rattle.dk_page.specs.declared.pages.PageLine.{PageLine}
use Rattle.dk_page.specs.declared.pages.PageSection.{PageSection}
use Rattle.dk_points.specs.Table.{Point}
use Rattle.dk_template.specs.declared.grammar.RowId.{RowId}
use Rattle.dk_formats.specs.Saying.{AreSaidSections, Said, SaidSection, vars_under}
use Rattle.dk_formats.specs.declared.formats.Format.{Format}
use Rattle.dk_formats.specs.declared.formats.Format.TheVariants as format
use Rattle.dk_formats.specs.declared.formats.Sectioned.{Sectioned}
use Rattle.dk_formats.specs.declared.formats.Sectioned.TheVariants as sectioned

-- ---- JSON
abbrev pub says_fields : List VarInfo → Option Assertion → List Field
says_fields infos None = no_row_fields
says_fields infos (Some a) = row_fields a.row infos a.vars a.state

-- a line as an object of JSON
abbrev pub json_line : List VarInfo → List ℕ → Said → List ℕ
json_line infos point said =
    written (object_of (text_fields point said.line.text said.line.samples) (says_fields infos said.says)) ++ codes "\n"

abbrev pub json_lines : List VarInfo → List ℕ → List Said → List ℕ
json_lines infos point said = flat_map (json_line infos point) said

-- ---- languages
-- what a line says as an expression, if the language can say it
abbrev pub expression_of : Language → List VarInfo → Option Assertion → Option (List ℕ)
expression_of l infos None = None
expression_of l infos (Some a) = telling l infos (bases l infos) a.row a.vars a.state

-- what stands for the line in front of the point's function, and what stands in it
abbrev pub comment_of : Language → List VarInfo → Said → List ℕ
comment_of l infos said = comment_if l said.line.text (expression_of l infos said.says)

abbrev pub assertion_of : Language → List VarInfo → Said → List ℕ
assertion_of l infos said = assertion_if l said.line.text (expression_of l infos said.says)

-- the lines that the language can't say, and the function of the point with the others
abbrev pub function_text : Language → List VarInfo → List ℕ → List Said → List ℕ
function_text l infos point said =
    flat_map (comment_of l infos) said ++ opening l infos point ++ flat_map (assertion_of l infos) said ++ closing l

-- ---- reports that are told section by section
abbrev pub front_text : Sectioned → List ℕ
front_text sectioned.Json = []
front_text (sectioned.In l) = preamble l

abbrev pub lines_text : Sectioned → List VarInfo → List ℕ → List Said → List ℕ
lines_text sectioned.Json infos point said = json_lines infos point said
lines_text (sectioned.In l) infos point said = function_text l infos point said

abbrev pub section_text : Sectioned → List Point → SaidSection → List ℕ
section_text format ps said = lines_text format (vars_under ps said.section.point) said.section.point said.lines

-- the sections, in order, behind what stands in front of all
abbrev pub sections_text : Sectioned → List Point → List SaidSection → List ℕ
sections_text format ps said = front_text format ++ flat_map (section_text format ps) said

-- ---- pages
-- the row of the instance that a line says, if it says one
abbrev pub row_of : Option Assertion → Option RowId
row_of None = None
row_of (Some a) = Some a.row

abbrev pub page_line : Said → PageLine
page_line said =
    record { text = said.line.text; samples = said.line.samples; group = group_of (row_of said.says) said.line.text }

-- a section of a page, behind those of these names
abbrev pub page_section : List (List ℕ) → SaidSection → PageSection
page_section names said = record {
  id = id_after names said.section.point;
  point = said.section.point;
  samples = said.section.samples;
  lines = map page_line said.lines;
}

abbrev pub page_sections : List (List ℕ) → List SaidSection → List PageSection
page_sections names [] = []
page_sections names (s ∷ said) = page_section names s ∷ page_sections (names ++ s.section.point ∷ []) said

-- ---- reports
-- what the lines of a report say, in the format
abbrev pub report_text : Format → List Point → List SaidSection → List ℕ
report_text format.Json ps said = sections_text sectioned.Json ps said
report_text (format.In l) ps said = sections_text (sectioned.In l) ps said
report_text format.Html ps said = page (page_sections [] said)

-- The text is the report's sections in the format, where their points are of the table.
pub record IsTold (format : Format) (sections : List Section) (ps : List Point) (text : List ℕ) : Type 0 where
  pub said : List SaidSection
  pub are_said : AreSaidSections ps sections said
  pub is_text : text ≡ report_text format ps said
