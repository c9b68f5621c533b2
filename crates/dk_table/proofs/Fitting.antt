-- Rows whose cells fit their columns.
use Rattle.std.proofs.Common.{◌≡◌, ◌∙◌, ◌&&◌, ◌∷◌, ◌++◌, [], ℕ, Bool, true, List, None, is_some, length, map, refl, sym, ap, arith}
use Rattle.std.specs.Prelude.{not}
use Rattle.std.specs.List.{list_all, zip}
use Rattle.std.proofs.lemmas.Bool.{and_parts, not-false}
use Rattle.std.proofs.lemmas.List.Folds.{list_all-append}
use Rattle.dk_decl.specs.declared.decls.PointDecl.{PointDecl}
use Rattle.dk_decl.specs.declared.decls.VarDecl.{VarDecl}
use Rattle.dk_table.specs.Columns.{cell_value}
use Rattle.dk_table.specs.Tables.Cursors.{Cursor, Moves}
use Rattle.dk_table.specs.Writing.Forms.{all_fit, form_of, heading_of, row_fits}
use Rattle.dk_table.specs.Tables.PlacedRows.{Placed}
use Rattle.dk_table.specs.Traces.{is_told, untold_row}
use Rattle.dk_table.specs.declared.columns.ColumnKind.{ColumnKind}
use Rattle.dk_table.specs.declared.writing.Form.{Form}
use Rattle.dk_table.specs.declared.writing.Heading.{Heading}
use Rattle.dk_table.proofs.Moving.{moved}
use Rattle.dk_table.proofs.Telling.{none_found}

-- ---- one row and those behind it
pub record FitsNow (form : Form) (after : Cursor) : Type 0 where
  pub row : row_fits form after.row ≡ true
  pub left : all_fit form after.left ≡ true

pub fits_now : (form : Form) (left : List Placed) (after : Cursor) → all_fit form left ≡ true → Moves left after true → FitsNow form after
fits_now form left after h m =
    let parts = and_parts (row_fits form after.row) (all_fit form after.left) (sym (ap (all_fit form) (moved left after m)) ∙ h) in
    record { row = parts.0; left = parts.1 }

-- ---- the rows of one file and those behind it
pub record FitParts (form : Form) (own rest : List Placed) : Type 0 where
  pub own_fit : all_fit form own ≡ true
  pub rest_fit : all_fit form rest ≡ true

pub fit_parts : (form : Form) (all own rest : List Placed) → all ≡ own ++ rest → all_fit form all ≡ true → FitParts form own rest
fit_parts form all own rest is h =
    let parts = and_parts (all_fit form own) (all_fit form rest) (sym (list_all-append (row_fits form) own rest) ∙ sym (ap (all_fit form) is) ∙ h) in
    record { own_fit = parts.0; rest_fit = parts.1 }

-- ---- by the kinds of the columns
abbrev tells : ColumnKind × List ℕ → Bool
tells e = is_some (cell_value e.0 e.1)

abbrev fits : Heading × List ℕ → Bool
fits e = is_some (cell_value e.0.kind e.1)

-- a column without a variable has no heading
headed : (vars : List VarDecl) (kinds : List ColumnKind) (cells : List (List ℕ)) → list_all tells (zip kinds cells) ≡ true
    → list_all fits (zip (map heading_of (zip vars kinds)) cells) ≡ true
headed [] kinds cells h = refl
headed (v ∷ vs) [] cells h = refl
headed (v ∷ vs) (k ∷ ks) [] h = refl
headed (v ∷ vs) (k ∷ ks) (c ∷ cs) h =
    let parts = and_parts (tells (k, c)) (list_all tells (zip ks cs)) h in
    ap (λ (b : Bool). b && list_all fits (zip (map heading_of (zip vs ks)) cs)) parts.0 ∙ headed vs ks cs parts.1

pub told_fit : (d : PointDecl) (kinds : List ColumnKind) (rows : List Placed) → untold_row kinds rows ≡ None → all_fit (form_of d kinds) rows ≡ true
told_fit d kinds [] e = refl
told_fit d kinds (row ∷ rows) e =
    let found = none_found (λ r. not (is_told kinds r)) row rows e in
    let first : is_told kinds row ≡ true = not-false (is_told kinds row) found.0 in
    ap (λ (b : Bool). b && all_fit (form_of d kinds) rows) (headed d.vars kinds row.cells first) ∙ told_fit d kinds rows found.1

-- ---- one row, where each kind has a variable
headed_same : (vars : List VarDecl) (kinds : List ColumnKind) (cells : List (List ℕ)) → length vars ≡ length kinds
    → list_all fits (zip (map heading_of (zip vars kinds)) cells) ≡ list_all tells (zip kinds cells)
headed_same [] [] cells same = refl
headed_same [] (k ∷ ks) cells same = absurd (omega (arith, same))
headed_same (v ∷ vs) [] cells same = absurd (omega (arith, same))
headed_same (v ∷ vs) (k ∷ ks) [] same = refl
headed_same (v ∷ vs) (k ∷ ks) (c ∷ cs) same = ap (λ (b : Bool). tells (k, c) && b) (headed_same vs ks cs (omega (arith, same)))

-- its cells fit their columns where they are told
pub row_fits_told : (d : PointDecl) (kinds : List ColumnKind) (form : Form) (row : Placed) (b : Bool) → length d.vars ≡ length kinds → form ≡ form_of d kinds
    → row_fits form row ≡ b → is_told kinds row ≡ b
row_fits_told d kinds form row b same is fit = sym (ap (λ (f : Form). row_fits f row) is ∙ headed_same d.vars kinds row.cells same) ∙ fit
