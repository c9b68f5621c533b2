-- What lines add to a text, one after another.
use Rattle.std.proofs.Common.{◌≡◌, ◌<◌, ◌+◌, ◌∙◌, ◌++◌, ◌∷◌, [], ℕ, List, Option, Some, None, IfNone, IfSome, append_assoc, ap, get_or, length, refl, subst, sym, take}
use Rattle.std.proofs.lemmas.List.{append-nil, flat_map_more, map-append, take_more}
use Rattle.std.proofs.lemmas.List.Elements.{All-nil, All-push}
use Rattle.std.specs.List.{flat_map}
use Rattle.dk_base.specs.declared.kinds.VarInfo.{VarInfo}
use Rattle.dk_claims.specs.declared.sections.ReportLine.{ReportLine}
use Rattle.dk_claims.specs.declared.sections.Section.{Section}
use Rattle.dk_expr.specs.Reads.{HasNone, IsRead}
use Rattle.dk_expr.specs.declared.assertions.Assertion.{Assertion}
use Rattle.dk_functions.specs.Functions.{assertion_if, closing, comment_if, opening}
use Rattle.dk_languages.specs.declared.languages.Language.{Language}
use Rattle.dk_formats.specs.Saying.{AreSaid, AreSaidSections, Said, SaidSection, Says, vars_under}
use Rattle.dk_formats.specs.Steps.{AddsJson, AddsSection, AddsSections, AreParts}
use Rattle.dk_formats.specs.Telling.{assertion_of, comment_of, expression_of, json_line, section_text}
use Rattle.dk_points.specs.Table.{Point}
use Rattle.dk_formats.specs.declared.formats.Sectioned.{Sectioned}
use Rattle.dk_formats.specs.declared.formats.Sectioned.TheVariants as format
use Rattle.dk_formats.specs.declared.functions.Parts.{Parts}

-- what is said of a section
abbrev pub IsSaidAt : List Point → SaidSection → Type 0
IsSaidAt ps s = AreSaid (vars_under ps s.section.point) s.section.lines s.lines

-- ---- what is read
pub says_by : (infos : List VarInfo) (text given : List ℕ) (says : Option Assertion) → given ≡ text → IfSome says (λ a. IsRead infos given a)
    → IfNone says (HasNone infos given) → Says infos text says
says_by infos text given None is some none = subst (λ (t : List ℕ). HasNone infos t) is none
says_by infos text given (Some a) is some none = subst (λ (t : List ℕ). IsRead infos t a) is some

pub none_said : (infos : List VarInfo) → AreSaid infos [] []
none_said infos = record { lines_are = refl; each = All-nil (λ (s : Said). Says infos s.line.text s.says) }

pub more_said : (infos : List VarInfo) (lines : List ReportLine) (said : List Said) (line : ReportLine) (says : Option Assertion) → AreSaid infos lines said
    → Says infos line.text says → AreSaid infos (lines ++ line ∷ []) (said ++ record { line = line; says = says } ∷ [])
more_said infos lines said line says are is = record {
  lines_are = map-append (λ (s : Said). s.line) said (record { line = line; says = says } ∷ []) ∙ ap (λ (l : List ReportLine). l ++ line ∷ []) are.lines_are;
  each = All-push (λ (s : Said). Says infos s.line.text s.says) said (record { line = line; says = says }) are.each is;
}

-- ---- one line more
module _ (infos : List VarInfo) (lines : List ReportLine) (i : ℕ) (line : ReportLine) (within : i < length lines) (here : line ≡ get_or lines i line)
    (says : Option Assertion) (is : Says infos line.text says) where
  pub one_more : take i lines ++ line ∷ [] ≡ take (i + 1) lines
  one_more = ap (λ (l : ReportLine). take i lines ++ l ∷ []) here ∙ sym (take_more lines i line within)

  pub more_json : (point old mid new : List ℕ) → AddsJson infos point (take i lines) old mid
      → new ≡ mid ++ json_line infos point (record { line = line; says = says }) → AddsJson infos point (take (i + 1) lines) old new
  more_json point old mid new adds pushed = record {
    said = adds.said ++ record { line = line; says = says } ∷ [];
    are_said = subst (λ (l : List ReportLine). AreSaid infos l (adds.said ++ record { line = line; says = says } ∷ [])) one_more
        (more_said infos (take i lines) adds.said line says adds.are_said is);
    added = pushed ∙ ap (λ (t : List ℕ). t ++ json_line infos point (record { line = line; says = says })) adds.added
        ∙ flat_map_more (json_line infos point) old adds.said (record { line = line; says = says });
  }

  pub more_parts : (l : Language) (old new : Parts) (expression : Option (List ℕ)) → AreParts l infos (take i lines) old
      → expression ≡ expression_of l infos says
      → new.comments ≡ old.comments ++ comment_if l line.text expression
      → new.assertions ≡ old.assertions ++ assertion_if l line.text expression
      → AreParts l infos (take (i + 1) lines) new
  more_parts l old new expression are expressed comments assertions =
      let one : Said = record { line = line; says = says } in
      record {
        said = are.said ++ one ∷ [];
        are_said = subst (λ (ls : List ReportLine). AreSaid infos ls (are.said ++ one ∷ [])) one_more
            (more_said infos (take i lines) are.said line says are.are_said is);
        comments_are = comments ∙ ap (λ (e : Option (List ℕ)). old.comments ++ comment_if l line.text e) expressed
            ∙ ap (λ (t : List ℕ). t ++ comment_of l infos one) are.comments_are
            ∙ flat_map_more (comment_of l infos) [] are.said one;
        assertions_are = assertions ∙ ap (λ (e : Option (List ℕ)). old.assertions ++ assertion_if l line.text e) expressed
            ∙ ap (λ (t : List ℕ). t ++ assertion_of l infos one) are.assertions_are
            ∙ flat_map_more (assertion_of l infos) [] are.said one;
      }

-- ---- in front of the first line
pub no_json : (infos : List VarInfo) (point text : List ℕ) → AddsJson infos point [] text text
no_json infos point text = record { said = []; are_said = none_said infos; added = sym (append-nil text) }

pub no_parts : (l : Language) (infos : List VarInfo) (parts : Parts) → parts.comments ≡ [] → parts.assertions ≡ [] → AreParts l infos [] parts
no_parts l infos parts comments assertions = record {
  said = [];
  are_said = none_said infos;
  comments_are = comments;
  assertions_are = assertions;
}

-- ---- sections
pub json_added : (infos : List VarInfo) (section : Section) (old new : List ℕ) → AddsJson infos section.point section.lines old new
    → AddsSection format.Json infos section old new
json_added infos section old new adds = record { said = adds.said; are_said = adds.are_said; added = adds.added }

pub function_added : (l : Language) (infos : List VarInfo) (section : Section) (parts : Parts) (old one two three new : List ℕ)
    → AreParts l infos section.lines parts → one ≡ old ++ parts.comments → two ≡ one ++ opening l infos section.point
    → three ≡ two ++ parts.assertions → new ≡ three ++ closing l → AddsSection (format.In l) infos section old new
function_added l infos section parts old one two three new are first second third fourth =
    let comments : List ℕ = flat_map (comment_of l infos) are.said in
    let assertions : List ℕ = flat_map (assertion_of l infos) are.said in
    let begins : List ℕ = opening l infos section.point in
    let one_is : one ≡ old ++ comments = first ∙ ap (λ (t : List ℕ). old ++ t) are.comments_are in
    let two_is : two ≡ old ++ (comments ++ begins) = second ∙ ap (λ (t : List ℕ). t ++ begins) one_is ∙ append_assoc old comments begins in
    let three_is : three ≡ old ++ ((comments ++ begins) ++ assertions) =
    third ∙ ap (λ (t : List ℕ). two ++ t) are.assertions_are ∙ ap (λ (t : List ℕ). t ++ assertions) two_is
    ∙ append_assoc old (comments ++ begins) assertions in
    record {
      said = are.said;
      are_said = are.are_said;
      added = fourth ∙ ap (λ (t : List ℕ). t ++ closing l) three_is ∙ append_assoc old ((comments ++ begins) ++ assertions) (closing l);
    }

-- ---- reports
pub no_sections : (f : Sectioned) (ps : List Point) (text : List ℕ) → AddsSections f ps [] text text
no_sections f ps text = record {
  said = [];
  are_said = record { sections_are = refl; each = All-nil (IsSaidAt ps) };
  added = sym (append-nil text);
}

pub more_said_sections : (ps : List Point) (sections : List Section) (i : ℕ) (section : Section) → i < length sections
    → section ≡ get_or sections i section → (said : List SaidSection) (lines : List Said) → AreSaidSections ps (take i sections) said
    → AreSaid (vars_under ps section.point) section.lines lines
    → AreSaidSections ps (take (i + 1) sections) (said ++ record { section = section; lines = lines } ∷ [])
more_said_sections ps sections i section within here said lines are one =
    let last : SaidSection = record { section = section; lines = lines } in
    let longer : take i sections ++ section ∷ [] ≡ take (i + 1) sections =
    ap (λ (s : Section). take i sections ++ s ∷ []) here ∙ sym (take_more sections i section within) in
    record {
      sections_are = map-append (λ (s : SaidSection). s.section) said (last ∷ [])
          ∙ ap (λ (l : List Section). l ++ section ∷ []) are.sections_are ∙ longer;
      each = All-push (IsSaidAt ps) said last are.each one;
    }

pub more_sections : (f : Sectioned) (ps : List Point) (sections : List Section) (i : ℕ) (section : Section) → i < length sections
    → section ≡ get_or sections i section → (old mid new : List ℕ) → AddsSections f ps (take i sections) old mid
    → AddsSection f (vars_under ps section.point) section mid new → AddsSections f ps (take (i + 1) sections) old new
more_sections f ps sections i section within here old mid new adds one =
    let last : SaidSection = record { section = section; lines = one.said } in
    record {
      said = adds.said ++ last ∷ [];
      are_said = more_said_sections ps sections i section within here adds.said one.said adds.are_said one.are_said;
      added = one.added ∙ ap (λ (t : List ℕ). t ++ section_text f ps last) adds.added ∙ flat_map_more (section_text f ps) old adds.said last;
    }
