-- Sections of lines, one after another, and what they claim.
use Rattle.std.proofs.Common.{◌≡◌, ◌∙◌, ◌&&◌, ◌||◌, ◌++◌, not, sym, ap, refl, true≢false, ℕ, Bool, true, false, cond, List, [], ◌∷◌, map, append_assoc}
use Rattle.std.proofs.lemmas.List.{append-nil, map-append}
use Rattle.std.proofs.lemmas.Grind.{flat_map-append}
use Rattle.std.proofs.lemmas.Bool.{and_parts}
use Rattle.std.specs.List.{flat_map}
use Rattle.dk_base.specs.Pieces.{is_empty}
use Rattle.dk_claims.specs.Claims.{claims_below, claims_of, is_blank_line, is_remark, is_ruler, written_lines}
use Rattle.dk_claims.specs.Counts.{without_count}
use Rattle.dk_claims.specs.Laws.{ClaimsAreOfSections}
use Rattle.dk_claims.specs.Sections.{ended, front_section, is_nothing, report_line, section_at, section_claims, sections_below, sections_of, with_line}
use Rattle.dk_claims.specs.Standing.{IsBehind, StandsFor, sections_with}
use Rattle.dk_claims.specs.declared.claims.Claim.{Claim}
use Rattle.dk_claims.specs.declared.sections.ReportLine.{ReportLine}
use Rattle.dk_claims.specs.declared.sections.Section.{Section}
use Rattle.dk_claims.specs.declared.sections.Sections.{Sections}
use Rattle.dk_claims.proofs.Claiming.{blank_left_out, written_kept}

-- ---- one line more
pub at_blank : (kept : Sections) (line : List ℕ) → is_blank_line line ≡ true → (lines : List (List ℕ)) → StandsFor kept lines → StandsFor kept (lines ++ line ∷ [])
at_blank kept line blank lines stands rest =
    ap sections_of (append_assoc lines (line ∷ []) rest) ∙ stands (line ∷ rest)
    ∙ ap (sections_with kept) (blank_left_out line rest blank)

pub behind_line : (old new : Sections) (line : List ℕ) → is_blank_line line ≡ false → IsBehind old line new
    → (lines : List (List ℕ)) → StandsFor old lines → StandsFor new (lines ++ line ∷ [])
behind_line old new line written behind lines stands rest =
    ap sections_of (append_assoc lines (line ∷ []) rest) ∙ stands (line ∷ rest)
    ∙ ap (sections_with old) (written_kept line rest written) ∙ behind (written_lines rest)

with_nothing : (section : Section) → record section { lines = section.lines ++ [] } ≡ section
with_nothing section = ap (λ (lines : List ReportLine). record section { lines = lines }) (append-nil section.lines)

-- a line of `=`
pub ruler_below : (behind : Bool) (section : Section) (line : List ℕ) (rest : List (List ℕ)) → is_ruler line ≡ true
    → sections_below behind section (line ∷ rest) ≡ sections_below true section rest
unfolding sections_below
ruler_below behind section line rest is =
    ap (λ (b : Bool). cond (behind && not b) (ended section ++ sections_below false (section_at line) rest)
    (sections_below b (record section { lines = section.lines ++ cond (behind || b || is_remark line) [] (report_line line ∷ []) }) rest)) is
    ∙ at behind where
      at : (b : Bool) → cond (b && false) (ended section ++ sections_below false (section_at line) rest)
          (sections_below true (record section { lines = section.lines ++ cond (b || true || is_remark line) [] (report_line line ∷ []) }) rest)
          ≡ sections_below true section rest
      at true = ap (λ (s : Section). sections_below true s rest) (with_nothing section)
      at false = ap (λ (s : Section). sections_below true s rest) (with_nothing section)

-- a heading
pub heading_below : (section : Section) (line : List ℕ) (rest : List (List ℕ)) → is_ruler line ≡ false
    → sections_below true section (line ∷ rest) ≡ ended section ++ sections_below false (section_at line) rest
unfolding sections_below
heading_below section line rest is =
    ap (λ (b : Bool). cond (not b) (ended section ++ sections_below false (section_at line) rest)
    (sections_below b (with_line true line section) rest)) is

-- a line below a heading: one that says something, and a remark
said_below : (section : Section) (line : List ℕ) (rest : List (List ℕ)) → is_ruler line ≡ false
    → sections_below false section (line ∷ rest)
    ≡ sections_below false (record section { lines = section.lines ++ cond (is_remark line) [] (report_line line ∷ []) }) rest
unfolding sections_below
said_below section line rest is =
    ap (λ (b : Bool). sections_below b (record section { lines = section.lines ++ cond (b || is_remark line) [] (report_line line ∷ []) }) rest) is

pub line_below : (section : Section) (line : List ℕ) (rest : List (List ℕ)) → is_ruler line ≡ false → is_remark line ≡ false
    → sections_below false section (line ∷ rest) ≡ sections_below false (record section { lines = section.lines ++ report_line line ∷ [] }) rest
line_below section line rest is none =
    said_below section line rest is
    ∙ ap (λ (b : Bool). sections_below false (record section { lines = section.lines ++ cond b [] (report_line line ∷ []) }) rest) none

pub remark_below : (section : Section) (line : List ℕ) (rest : List (List ℕ)) → is_ruler line ≡ false → is_remark line ≡ true
    → sections_below false section (line ∷ rest) ≡ sections_below false section rest
remark_below section line rest is one =
    said_below section line rest is
    ∙ ap (λ (b : Bool). sections_below false (record section { lines = section.lines ++ cond b [] (report_line line ∷ []) }) rest) one
    ∙ ap (λ (s : Section). sections_below false s rest) (with_nothing section)

-- ---- headings
nothing_ended : (section : Section) → is_nothing section ≡ true → ended section ≡ []
nothing_ended section is = ap (λ (b : Bool). cond b [] (section ∷ [])) is

some_ended : (section : Section) → is_nothing section ≡ false → ended section ≡ section ∷ []
some_ended section is = ap (λ (b : Bool). cond b [] (section ∷ [])) is

-- closed sections with one that may be nothing
pub closed_as_nothing : (closed : List Section) (section : Section) → is_nothing section ≡ true → closed ≡ closed ++ ended section
closed_as_nothing closed section is = sym (append-nil closed) ∙ ap (λ (l : List Section). closed ++ l) (sym (nothing_ended section is))

pub closed_as_some : (closed all : List Section) (section : Section) → is_nothing section ≡ false → all ≡ closed ++ section ∷ [] → all ≡ closed ++ ended section
closed_as_some closed all section is pushed = pushed ∙ ap (λ (l : List Section). closed ++ l) (sym (some_ended section is))

pub begun : (old : Sections) (heading : List ℕ) (last next : Section) (closed : List Section) → old.behind_ruler ≡ true → is_ruler heading ≡ false
    → last ≡ old.current → next ≡ section_at heading → closed ≡ old.closed ++ ended last
    → (rest : List (List ℕ)) → sections_with old (heading ∷ rest) ≡ closed ++ sections_below false next rest
begun old heading last next closed ruler words was is are rest =
    ap (λ (b : Bool). old.closed ++ sections_below b old.current (heading ∷ rest)) ruler
    ∙ ap (λ (l : List Section). old.closed ++ l) (heading_below old.current heading rest words)
    ∙ sym (append_assoc old.closed (ended old.current) (sections_below false (section_at heading) rest))
    ∙ ap (λ (s : Section). (old.closed ++ ended s) ++ sections_below false (section_at heading) rest) (sym was)
    ∙ ap (λ (l : List Section). l ++ sections_below false (section_at heading) rest) (sym are)
    ∙ ap (λ (s : Section). closed ++ sections_below false s rest) (sym is)

-- ---- lines below a heading
pub remark_taken : (old : Sections) (line : List ℕ) → old.behind_ruler ≡ false → is_ruler line ≡ false → is_remark line ≡ true → IsBehind old line old
remark_taken old line ruler is one rest =
    ap (λ (b : Bool). old.closed ++ sections_below b old.current (line ∷ rest)) ruler
    ∙ ap (λ (l : List Section). old.closed ++ l) (remark_below old.current line rest is one)
    ∙ ap (λ (b : Bool). old.closed ++ sections_below b old.current rest) (sym ruler)

pub line_taken : (old : Sections) (line : List ℕ) (lines : List ReportLine) (told : ReportLine) → old.behind_ruler ≡ false → is_ruler line ≡ false
    → is_remark line ≡ false → told ≡ report_line line → lines ≡ old.current.lines ++ told ∷ []
    → IsBehind old line (record old { current = record old.current { lines = lines } })
line_taken old line lines told ruler is none told_is pushed rest =
    ap (λ (b : Bool). old.closed ++ sections_below b old.current (line ∷ rest)) ruler
    ∙ ap (λ (l : List Section). old.closed ++ l) (line_below old.current line rest is none)
    ∙ ap (λ (r : ReportLine). old.closed ++ sections_below false (record old.current { lines = old.current.lines ++ r ∷ [] }) rest) (sym told_is)
    ∙ ap (λ (l : List ReportLine). old.closed ++ sections_below false (record old.current { lines = l }) rest) (sym pushed)
    ∙ ap (λ (b : Bool). old.closed ++ sections_below b (record old.current { lines = lines }) rest) (sym ruler)

pub ruler_taken : (old : Sections) (line : List ℕ) → is_ruler line ≡ true → IsBehind old line (record old { behind_ruler = true })
ruler_taken old line is rest = ap (λ (l : List Section). old.closed ++ l) (ruler_below old.behind_ruler old.current line rest is)

-- ---- all lines
pub stands_for_none : (kept : Sections) → kept.closed ≡ [] → kept.current ≡ front_section → kept.behind_ruler ≡ false → StandsFor kept []
unfolding sections_of
stands_for_none kept closed current ruler rest =
    sym (ap (λ (l : List Section). l ++ sections_below kept.behind_ruler kept.current (written_lines rest)) closed
    ∙ ap (λ (b : Bool). sections_below b kept.current (written_lines rest)) ruler
    ∙ ap (λ (s : Section). sections_below false s (written_lines rest)) current)

pub all_sections : (kept : Sections) (lines : List (List ℕ)) → StandsFor kept lines → kept.closed ++ ended kept.current ≡ sections_of lines
unfolding sections_below
all_sections kept lines stands = sym (stands []) ∙ ap sections_of (append-nil lines)

-- ---- what sections claim
empty_claims : (point : List ℕ) (lines : List ReportLine) → is_empty lines ≡ true → map {B = Claim} (λ (line : ReportLine). record { point = point; text = line.text }) lines ≡ []
empty_claims point [] e = refl
empty_claims point (line ∷ lines) e = absurd (true≢false (sym e))

-- nothing was said
none_claimed : (section : Section) → is_nothing section ≡ true → section_claims section ≡ []
none_claimed section is = empty_claims section.point section.lines (and_parts _ _ (and_parts _ _ is).1).1

ended_claims : (section : Section) → flat_map section_claims (ended section) ≡ section_claims section
ended_claims section = go (is_nothing section) refl where
  go : (b : Bool) → is_nothing section ≡ b → flat_map section_claims (cond b [] (section ∷ [])) ≡ section_claims section
  go true e = sym (none_claimed section e)
  go false e = append-nil (section_claims section)

ruler_claims : (behind : Bool) (name line : List ℕ) (lines : List (List ℕ)) → is_ruler line ≡ true
    → claims_below behind name (line ∷ lines) ≡ claims_below true name lines
unfolding claims_below
ruler_claims behind name line lines is =
    ap (λ (b : Bool). cond (behind || b || is_remark line) [] (own ∷ []) ++ claims_below b (cond (behind && not b) (without_count line) name) lines) is
    ∙ at behind where
      own : Claim
      own = record { point = name; text = without_count line }

      at : (b : Bool) → cond (b || true || is_remark line) [] (own ∷ []) ++ claims_below true (cond (b && false) (without_count line) name) lines
          ≡ claims_below true name lines
      at true = refl
      at false = refl

heading_claims : (name line : List ℕ) (lines : List (List ℕ)) → is_ruler line ≡ false
    → claims_below true name (line ∷ lines) ≡ claims_below false (without_count line) lines
unfolding claims_below
heading_claims name line lines is =
    ap (λ (b : Bool). claims_below b (cond (not b) (without_count line) name) lines) is

said_claims : (name line : List ℕ) (lines : List (List ℕ)) → is_ruler line ≡ false
    → claims_below false name (line ∷ lines)
    ≡ cond (is_remark line) [] (record { point = name; text = without_count line } ∷ []) ++ claims_below false name lines
unfolding claims_below
said_claims name line lines is =
    ap (λ (b : Bool). cond (b || is_remark line) [] (own ∷ []) ++ claims_below b name lines) is where
      own : Claim
      own = record { point = name; text = without_count line }

-- what one line more claims
more_claims : (section : Section) (line : List ℕ)
    → section_claims (record section { lines = section.lines ++ cond (is_remark line) [] (report_line line ∷ []) })
    ≡ section_claims section ++ cond (is_remark line) [] (record { point = section.point; text = without_count line } ∷ [])
more_claims section line =
    map-append claim section.lines (cond (is_remark line) [] (report_line line ∷ []))
    ∙ ap (λ (l : List Claim). section_claims section ++ l) (one (is_remark line)) where
      claim : ReportLine → Claim
      claim l = record { point = section.point; text = l.text }

      one : (b : Bool) → map claim (cond b [] (report_line line ∷ [])) ≡ cond b [] (claim (report_line line) ∷ [])
      one true = refl
      one false = refl

claims_by_sections : (behind : Bool) (section : Section) (lines : List (List ℕ))
    → flat_map section_claims (sections_below behind section lines) ≡ section_claims section ++ claims_below behind section.point lines
unfolding sections_below claims_below
claims_by_sections behind section [] = ended_claims section ∙ sym (append-nil (section_claims section))
claims_by_sections true section (line ∷ lines) =
    go (is_ruler line) refl (claims_by_sections true section lines) (claims_by_sections false (section_at line) lines) where
      go : (b : Bool) → is_ruler line ≡ b
          → flat_map section_claims (sections_below true section lines) ≡ section_claims section ++ claims_below true section.point lines
          → flat_map section_claims (sections_below false (section_at line) lines) ≡ section_claims (section_at line) ++ claims_below false (without_count line) lines
          → flat_map section_claims (sections_below true section (line ∷ lines)) ≡ section_claims section ++ claims_below true section.point (line ∷ lines)
      go true e same next =
          ap (flat_map section_claims) (ruler_below true section line lines e)
          ∙ same
          ∙ ap (λ (l : List Claim). section_claims section ++ l) (sym (ruler_claims true section.point line lines e))
      go false e same next =
          ap (flat_map section_claims) (heading_below section line lines e)
          ∙ flat_map-append section_claims (ended section) (sections_below false (section_at line) lines)
          ∙ ap (λ (l : List Claim). l ++ flat_map section_claims (sections_below false (section_at line) lines)) (ended_claims section)
          ∙ ap (λ (l : List Claim). section_claims section ++ l)
          (next ∙ sym (heading_claims section.point line lines e))
claims_by_sections false section (line ∷ lines) =
    go (is_ruler line) refl (claims_by_sections true section lines)
    (claims_by_sections false (record section { lines = section.lines ++ cond (is_remark line) [] (report_line line ∷ []) }) lines) where
      go : (b : Bool) → is_ruler line ≡ b
          → flat_map section_claims (sections_below true section lines) ≡ section_claims section ++ claims_below true section.point lines
          → flat_map section_claims (sections_below false (record section { lines = section.lines ++ cond (is_remark line) [] (report_line line ∷ []) }) lines) ≡ section_claims (record section { lines = section.lines ++ cond (is_remark line) [] (report_line line ∷ []) }) ++ claims_below false section.point lines
          → flat_map section_claims (sections_below false section (line ∷ lines)) ≡ section_claims section ++ claims_below false section.point (line ∷ lines)
      go true e same next =
          ap (flat_map section_claims) (ruler_below false section line lines e)
          ∙ same
          ∙ ap (λ (l : List Claim). section_claims section ++ l) (sym (ruler_claims false section.point line lines e))
      go false e same next =
          ap (flat_map section_claims) (said_below section line lines e)
          ∙ next
          ∙ ap (λ (l : List Claim). l ++ claims_below false section.point lines) (more_claims section line)
          ∙ append_assoc (section_claims section) (cond (is_remark line) [] (record { point = section.point; text = without_count line } ∷ [])) (claims_below false section.point lines)
          ∙ ap (λ (l : List Claim). section_claims section ++ l) (sym (said_claims section.point line lines e))

pub claims_are_of_sections : ClaimsAreOfSections
unfolding sections_of claims_of
claims_are_of_sections lines = sym (claims_by_sections false front_section (written_lines lines))
