-- The record of a row, cell by cell.
use Rattle.std.proofs.Common.{◌≡◌, ◌≤◌, ◌<◌, ◌+◌, ◌∙◌, ◌∷◌, ◌++◌, [], ℕ, zero, suc, Bool, true, false, List, append_assoc, arith, get_or, length, map, refl, sym, take, ap, subst}
use Rattle.std.proofs.lemmas.List.{take-append-le, take_all}
use Rattle.dk_decl.specs.declared.decls.PointDecl.{PointDecl}
use Rattle.dk_table.specs.Writing.Forms.{IsFormed, form_of, line_at, tail_of, tails_of}
use Rattle.dk_table.specs.Writing.Pushing.{AddsRow, GathersRow}
use Rattle.dk_table.specs.declared.columns.ColumnKind.{ColumnKind}
use Rattle.dk_table.specs.declared.writing.Form.{Form}
use Rattle.dk_table.specs.declared.writing.Heading.{Heading}
use Rattle.dk_table.specs.declared.writing.tails.Tail.{Tail}

-- ---- lines of names
pub line_there : (hs : List Heading) (width i : ℕ) (h : Heading) → i < width → width ≤ length hs → h ≡ get_or hs i h → line_at (take width hs) i ≡ h.line
line_there [] width i h lt le is = absurd (omega (arith, lt, le))
line_there (g ∷ hs) zero i h lt le is = absurd (omega (arith, lt))
line_there (g ∷ hs) (suc w) zero h lt le is = ap (λ (x : Heading). x.line) (sym is)
line_there (g ∷ hs) (suc w) (suc i) h lt le is = line_there hs w i h (omega (arith, lt)) (omega (arith, le)) is

pub line_past : (hs : List Heading) (width i : ℕ) → width ≤ i → line_at (take width hs) i ≡ []
line_past hs zero i le = refl
line_past [] (suc w) i le = refl
line_past (g ∷ hs) (suc w) zero le = absurd (omega (arith, le))
line_past (g ∷ hs) (suc w) (suc i) le = line_past hs w i (omega (arith, le))

tail_more : (hs : List Heading) (place w : ℕ) (d : Tail) → place < w → w ≤ length hs
    → get_or (map (λ (h : Heading). tail_of h.line) hs) place d ≡ tail_of (line_at (take w hs) place)
tail_more [] place w d lt le = absurd (omega (arith, lt, le))
tail_more (h ∷ hs) place zero d lt le = absurd (omega (arith, lt))
tail_more (h ∷ hs) zero (suc w) d lt le = refl
tail_more (h ∷ hs) (suc place) (suc w) d lt le = tail_more hs place w d (omega (arith, lt)) (omega (arith, le))

-- what stands behind a value is its mark, and the line of the next one's name
pub tail_there : (hs : List Heading) (place width : ℕ) (d : Tail) → place + 1 < width → width ≤ length hs
    → get_or (tails_of hs) place d ≡ tail_of (line_at (take width hs) (place + 1))
tail_there [] place width d lt le = absurd (omega (arith, lt, le))
tail_there (h ∷ hs) place zero d lt le = absurd (omega (arith, lt))
tail_there (h ∷ hs) place (suc w) d lt le =
    let next : suc place ≡ place + 1 = omega arith in
    tail_more hs place w d (omega (arith, lt)) (omega (arith, le)) ∙ ap (λ (n : ℕ). tail_of (line_at (take (suc w) (h ∷ hs)) n)) next

-- ---- whether all cells fit
pub all_fitted : (fits_by : Bool) (text old new : List ℕ) → true ≡ fits_by → new ≡ old ++ text → AddsRow fits_by text old new true
all_fitted fits_by text old new is added = subst (λ (b : Bool). AddsRow b text old new true) is (refl, added)

pub one_unfit : (fits_by : Bool) (text old new more : List ℕ) → false ≡ fits_by → new ≡ old ++ more → AddsRow fits_by text old new false
one_unfit fits_by text old new more is added = subst (λ (b : Bool). AddsRow b text old new false) is (refl, (more, added))

-- ---- a record from its point's line to its blank line
pub row_added : (fits_by fits : Bool) (point cells old mid new : List ℕ) → AddsRow fits_by cells (old ++ point) mid fits → new ≡ mid ++ 10 ∷ []
    → AddsRow fits_by (point ++ (cells ++ 10 ∷ [])) old new fits
row_added true fits point cells old mid new (is, added) end =
    (is, end ∙ ap (λ (l : List ℕ). l ++ 10 ∷ []) added ∙ append_assoc (old ++ point) cells (10 ∷ []) ∙ append_assoc old point (cells ++ 10 ∷ []))
row_added false fits point cells old mid new (is, (more, added)) end = (
  is,
  (point ++ (more ++ 10 ∷ []), end ∙ ap (λ (l : List ℕ). l ++ 10 ∷ []) added ∙ append_assoc (old ++ point) more (10 ∷ []) ∙ append_assoc old point (more ++ 10 ∷ [])),
)

pub row_stays : (fits_by : Bool) (text old new : List ℕ) → AddsRow fits_by text old new true → GathersRow fits_by text old new true
row_stays true text old new h = h
row_stays false text old new (is, more) = absurd (cc is)

pub row_goes : (fits_by : Bool) (text old mid new : List ℕ) → AddsRow fits_by text old mid false → new ≡ take (length old) mid → GathersRow fits_by text old new false
row_goes true text old mid new (is, added) cut = absurd (cc is)
row_goes false text old mid new (is, (more, added)) cut =
    (is, cut ∙ ap (take (length old)) added ∙ take-append-le (length old) old more (omega arith) ∙ take_all (length old) old (omega arith))

-- ---- what a gathered row says
pub row_all : (fits_by : Bool) (text old new : List ℕ) → GathersRow fits_by text old new true → (fits_by ≡ true) × (new ≡ old ++ text)
row_all true text old new (is, added) = (refl, added)
row_all false text old new (is, same) = absurd (cc is)

pub row_none : (fits_by : Bool) (text old new : List ℕ) → GathersRow fits_by text old new false → (fits_by ≡ false) × (new ≡ old)
row_none true text old new (is, added) = absurd (cc is)
row_none false text old new (is, same) = (refl, same)

-- ---- a form of columns
pub formed_of : (d : PointDecl) (kinds : List ColumnKind) (form : Form) → form ≡ form_of d kinds → IsFormed form
formed_of d kinds form is = subst IsFormed (sym is) refl
