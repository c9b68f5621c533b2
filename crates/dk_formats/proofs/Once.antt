-- A report has at most one text in a format.
use Rattle.std.proofs.Common.{◌≡◌, ◌∙◌, ◌∷◌, [], ℕ, All, List, Option, Some, None, ap, map, refl, subst, sym}
use Rattle.std.proofs.lemmas.List.Elements.{All-head, All-tail}
use Rattle.dk_base.specs.declared.kinds.VarInfo.{VarInfo}
use Rattle.dk_claims.specs.declared.sections.ReportLine.{ReportLine}
use Rattle.dk_claims.specs.declared.sections.Section.{Section}
use Rattle.dk_expr.specs.Reads.{HasText, IsFirst, IsRead, told_state}
use Rattle.dk_expr.specs.declared.assertions.Assertion.{Assertion}
use Rattle.dk_expr.proofs.Unique.{texts_read_back}
use Rattle.dk_forms.specs.declared.states.State.{State}
use Rattle.dk_points.specs.Table.{Point}
use Rattle.dk_formats.specs.Laws.{ReportsAreToldOnce}
use Rattle.dk_formats.specs.Saying.{AreSaid, Said, SaidSection, Says, vars_under}
use Rattle.dk_formats.specs.Telling.{report_text}
use Rattle.dk_formats.proofs.Adding.{IsSaidAt}

-- ---- lists
-- lists whose elements are determined by their keys
list_once : {A B : Type 0} (key : A → B) (P : A → Type 0) → ((x y : A) → P x → P y → key x ≡ key y → x ≡ y) → (xs ys : List A)
    → map key xs ≡ map key ys → All P xs → All P ys → xs ≡ ys
list_once key P once [] [] same one two = refl
list_once key P once [] (y ∷ ys) same one two = absurd (cc)
list_once key P once (x ∷ xs) [] same one two = absurd (cc)
list_once key P once (x ∷ xs) (y ∷ ys) same one two =
    let here : key x ≡ key y = cc in
    let rest : map key xs ≡ map key ys = cc in
    let first : x ≡ y = once x y (All-head P x xs one) (All-head P y ys two) here in
    let others : xs ≡ ys = list_once key P once xs ys rest (All-tail P x xs one) (All-tail P y ys two) in
    cc (first, others)

-- ---- what a text says
abbrev assertion_with : Assertion → State → Assertion
assertion_with a s = record { row = a.row; vars = a.vars; state = s }

read_once : (infos : List VarInfo) (text : List ℕ) (a b : Assertion) → IsRead infos text a → IsRead infos text b → a ≡ b
read_once infos text a b one two =
    let back = sym one.has.prints in
    let is : b ≡ assertion_with a (told_state one.printed) =
    texts_read_back infos a.row a.vars one.printed b
    (subst (λ (t : List ℕ). HasText infos t a.row a.vars one.printed) back one.has)
    (subst (λ (t : List ℕ). IsFirst infos t a.row a.vars) back one.first)
    (subst (λ (t : List ℕ). IsRead infos t b) back two) in
    ap (assertion_with a) one.tells ∙ sym is

says_once : (infos : List VarInfo) (text : List ℕ) (x y : Option Assertion) → Says infos text x → Says infos text y → x ≡ y
says_once infos text None None one two = refl
says_once infos text None (Some b) one two = absurd (one b.row b.vars two.printed two.has)
says_once infos text (Some a) None one two = absurd (two a.row a.vars one.printed one.has)
says_once infos text (Some a) (Some b) one two = ap Some (read_once infos text a b one two)

-- ---- lines and sections
abbrev said_with : ReportLine → Option Assertion → Said
said_with line says = record { line = line; says = says }

abbrev section_with : Section → List Said → SaidSection
section_with section lines = record { section = section; lines = lines }

line_once : (infos : List VarInfo) (x y : Said) → Says infos x.line.text x.says → Says infos y.line.text y.says → x.line ≡ y.line → x ≡ y
line_once infos x y one two same =
    let says : x.says ≡ y.says =
    says_once infos x.line.text x.says y.says one (subst (λ (l : ReportLine). Says infos l.text y.says) (sym same) two) in
    ap (λ (l : ReportLine). said_with l x.says) same ∙ ap (said_with y.line) says

lines_once : (infos : List VarInfo) (lines : List ReportLine) (xs ys : List Said) → AreSaid infos lines xs → AreSaid infos lines ys → xs ≡ ys
lines_once infos lines xs ys one two =
    list_once (λ (s : Said). s.line) (λ (s : Said). Says infos s.line.text s.says) (line_once infos) xs ys (one.lines_are ∙ sym two.lines_are)
    one.each two.each

section_once : (ps : List Point) (x y : SaidSection) → IsSaidAt ps x → IsSaidAt ps y → x.section ≡ y.section → x ≡ y
section_once ps x y one two same =
    let lines : x.lines ≡ y.lines =
    lines_once (vars_under ps x.section.point) x.section.lines x.lines y.lines one
    (subst (λ (s : Section). AreSaid (vars_under ps s.point) s.lines y.lines) (sym same) two) in
    ap (λ (s : Section). section_with s x.lines) same ∙ ap (section_with y.section) lines

-- ---- reports
pub told_once : ReportsAreToldOnce
told_once format sections ps text other one two =
    let said : one.said ≡ two.said =
    list_once (λ (s : SaidSection). s.section) (IsSaidAt ps) (section_once ps) one.said two.said
    (one.are_said.sections_are ∙ sym two.are_said.sections_are) one.are_said.each two.are_said.each in
    one.is_text ∙ ap (report_text format ps) said ∙ sym two.is_text
