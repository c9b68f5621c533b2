-- What sections and lines add to a text.
use Rattle.std.specs.Prelude.{◌≡◌, ◌++◌, ◌∷◌, [], ℕ, List, flat_map, map}
use Rattle.dk_base.specs.declared.kinds.VarInfo.{VarInfo}
use Rattle.dk_claims.specs.declared.sections.ReportLine.{ReportLine}
use Rattle.dk_claims.specs.declared.sections.Section.{Section}
use Rattle.dk_languages.specs.declared.languages.Language.{Language}
use Rattle.dk_page.specs.Headings.{IsNext, StandsFor}
use Rattle.dk_page.specs.declared.pages.PageLine.{PageLine}
use Rattle.dk_page.specs.declared.pages.PageSection.{PageSection}
use Rattle.dk_points.specs.Table.{Point}
use Rattle.dk_formats.specs.Saying.{AreSaid, AreSaidSections, Said, SaidSection, vars_under}
use Rattle.dk_formats.specs.Telling.{assertion_of, comment_of, json_lines, lines_text, page_line, page_sections, section_text, sections_text}
use Rattle.dk_formats.specs.declared.formats.Sectioned.{Sectioned}
use Rattle.dk_formats.specs.declared.functions.Parts.{Parts}

-- objects of JSON of the lines of a point
pub record AddsJson (infos : List VarInfo) (point : List ℕ) (lines : List ReportLine) (old new : List ℕ) : Type 0 where
  pub said : List Said
  pub are_said : AreSaid infos lines said
  pub added : new ≡ old ++ json_lines infos point said

-- what stands for lines in front of a function, and in it
pub record AreParts (l : Language) (infos : List VarInfo) (lines : List ReportLine) (parts : Parts) : Type 0 where
  pub said : List Said
  pub are_said : AreSaid infos lines said
  pub comments_are : parts.comments ≡ flat_map (comment_of l infos) said
  pub assertions_are : parts.assertions ≡ flat_map (assertion_of l infos) said

-- a section in a format
pub record AddsSection (format : Sectioned) (infos : List VarInfo) (section : Section) (old new : List ℕ) : Type 0 where
  pub said : List Said
  pub are_said : AreSaid infos section.lines said
  pub added : new ≡ old ++ lines_text format infos section.point said

-- sections in a format
pub record AddsSections (format : Sectioned) (ps : List Point) (sections : List Section) (old new : List ℕ) : Type 0 where
  pub said : List SaidSection
  pub are_said : AreSaidSections ps sections said
  pub added : new ≡ old ++ flat_map (section_text format ps) said

-- all sections in a format
pub record AreTold (format : Sectioned) (sections : List Section) (ps : List Point) (text : List ℕ) : Type 0 where
  pub said : List SaidSection
  pub are_said : AreSaidSections ps sections said
  pub is_text : text ≡ sections_text format ps said

-- the lines of a section, as a page has them
pub record ArePageLines (infos : List VarInfo) (lines : List ReportLine) (found : List PageLine) : Type 0 where
  pub said : List Said
  pub are_said : AreSaid infos lines said
  pub lines_are : found ≡ map page_line said

-- the sections of a report, as a page has them, and their names
pub record ArePageSections (ps : List Point) (sections : List Section) (kept : List (List ℕ × List ℕ)) (found : List PageSection)
    : Type 0 where
  pub said : List SaidSection
  pub are_said : AreSaidSections ps sections said
  pub sections_are : found ≡ page_sections [] said
  pub names_are : StandsFor kept (map (λ (s : SaidSection). s.section.point) said)

-- one section more
pub record AddsPageSection (ps : List Point) (section : Section) (kept : List (List ℕ × List ℕ)) (old : List PageSection)
    (kept' : List (List ℕ × List ℕ)) (new : List PageSection) : Type 0 where
  pub added : PageSection
  pub is_last : new ≡ old ++ added ∷ []
  pub next : (names : List (List ℕ)) → StandsFor kept names → IsNext kept names section.point added.id kept'
  pub point_is : added.point ≡ section.point
  pub samples_are : added.samples ≡ section.samples
  pub lines_are : ArePageLines (vars_under ps section.point) section.lines added.lines
