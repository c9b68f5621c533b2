-- What lines and sections add to a page, one after another.
use Rattle.std.proofs.Common.{◌≡◌, ◌<◌, ◌+◌, ◌∙◌, ◌++◌, ◌∷◌, [], ℕ, List, Option, append_assoc, ap, get_or, length, map, refl, subst, sym, take}
use Rattle.std.proofs.lemmas.List.{append-nil, map-append}
use Rattle.std.proofs.lemmas.List.Elements.{All-nil}
use Rattle.dk_base.specs.declared.kinds.VarInfo.{VarInfo}
use Rattle.dk_claims.specs.declared.sections.ReportLine.{ReportLine}
use Rattle.dk_claims.specs.declared.sections.Section.{Section}
use Rattle.dk_expr.specs.declared.assertions.Assertion.{Assertion}
use Rattle.dk_page.specs.Headings.{StandsFor}
use Rattle.dk_page.specs.declared.pages.PageLine.{PageLine}
use Rattle.dk_page.specs.declared.pages.PageSection.{PageSection}
use Rattle.dk_points.specs.Table.{Point}
use Rattle.dk_formats.specs.Saying.{AreSaid, Said, SaidSection, Says, vars_under}
use Rattle.dk_formats.specs.Steps.{AddsPageSection, ArePageLines, ArePageSections}
use Rattle.dk_formats.specs.Telling.{page_line, page_section, page_sections}
use Rattle.dk_formats.proofs.Adding.{IsSaidAt, more_said, more_said_sections, none_said, one_more}

-- ---- lines
pub no_page_lines : (infos : List VarInfo) (found : List PageLine) → found ≡ [] → ArePageLines infos [] found
no_page_lines infos found none = record { said = []; are_said = none_said infos; lines_are = none }

pub more_page_lines : (infos : List VarInfo) (lines : List ReportLine) (i : ℕ) (line : ReportLine) → i < length lines → line ≡ get_or lines i line
    → (says : Option Assertion) → Says infos line.text says → (old new : List PageLine) (added : PageLine) → ArePageLines infos (take i lines) old
    → added ≡ page_line (record { line = line; says = says }) → new ≡ old ++ added ∷ [] → ArePageLines infos (take (i + 1) lines) new
more_page_lines infos lines i line within here says is old new added are added_is pushed =
    let one : Said = record { line = line; says = says } in
    record {
      said = are.said ++ one ∷ [];
      are_said = subst (λ (ls : List ReportLine). AreSaid infos ls (are.said ++ one ∷ [])) (one_more infos lines i line within here says is)
          (more_said infos (take i lines) are.said line says are.are_said is);
      lines_are = pushed ∙ ap (λ (l : List PageLine). l ++ added ∷ []) are.lines_are
          ∙ ap (λ (a : PageLine). map page_line are.said ++ a ∷ []) added_is ∙ sym (map-append page_line are.said (one ∷ []));
    }

-- ---- sections
abbrev point_of : SaidSection → List ℕ
point_of s = s.section.point

-- a section goes last
page_sections_more : (names : List (List ℕ)) (said : List SaidSection) (one : SaidSection)
    → page_sections names (said ++ one ∷ []) ≡ page_sections names said ++ page_section (names ++ map point_of said) one ∷ []
page_sections_more names [] one = ap (λ (ns : List (List ℕ)). page_section ns one ∷ []) (sym (append-nil names))
page_sections_more names (s ∷ said) one =
    let more : List (List ℕ) = names ++ point_of s ∷ [] in
    ap (λ (rest : List PageSection). page_section names s ∷ rest)
    (page_sections_more more said one
    ∙ ap (λ (ns : List (List ℕ)). page_sections more said ++ page_section ns one ∷ []) (append_assoc names (point_of s ∷ []) (map point_of said)))

-- a section is what its parts say
abbrev with_parts : List ℕ → List ℕ → Option ℕ → List PageLine → PageSection
with_parts id point samples lines = record { id = id; point = point; samples = samples; lines = lines }

section_is : (added told : PageSection) → added.id ≡ told.id → added.point ≡ told.point → added.samples ≡ told.samples → added.lines ≡ told.lines
    → added ≡ told
section_is added told id point samples lines =
    ap (λ (x : List ℕ). with_parts x added.point added.samples added.lines) id
    ∙ ap (λ (x : List ℕ). with_parts told.id x added.samples added.lines) point
    ∙ ap (λ (x : Option ℕ). with_parts told.id told.point x added.lines) samples
    ∙ ap (λ (x : List PageLine). with_parts told.id told.point told.samples x) lines

pub no_page_sections : (ps : List Point) (kept : List (List ℕ × List ℕ)) (found : List PageSection) → StandsFor kept [] → found ≡ []
    → ArePageSections ps [] kept found
no_page_sections ps kept found stands none = record {
  said = [];
  are_said = record { sections_are = refl; each = All-nil (IsSaidAt ps) };
  sections_are = none;
  names_are = stands;
}

pub more_page_sections : (ps : List Point) (sections : List Section) (i : ℕ) (section : Section) → i < length sections
    → section ≡ get_or sections i section → (kept kept' : List (List ℕ × List ℕ)) (old new : List PageSection)
    → ArePageSections ps (take i sections) kept old → AddsPageSection ps section kept old kept' new
    → ArePageSections ps (take (i + 1) sections) kept' new
more_page_sections ps sections i section within here kept kept' old new are one =
    let last : SaidSection = record { section = section; lines = one.lines_are.said } in
    let names : List (List ℕ) = map point_of are.said in
    let next = one.next names are.names_are in
    let added_is : one.added ≡ page_section names last =
    section_is one.added (page_section names last) next.id_is one.point_is one.samples_are one.lines_are.lines_are in
    record {
      said = are.said ++ last ∷ [];
      are_said = more_said_sections ps sections i section within here are.said one.lines_are.said are.are_said one.lines_are.are_said;
      sections_are = one.is_last ∙ ap (λ (l : List PageSection). l ++ one.added ∷ []) are.sections_are
          ∙ ap (λ (a : PageSection). page_sections [] are.said ++ a ∷ []) added_is ∙ sym (page_sections_more [] are.said last);
      names_are = subst (λ (ns : List (List ℕ)). StandsFor kept' ns) (sym (map-append point_of are.said (last ∷ []))) next.kept;
    }
