-- The text of rows is that of their records.
use Rattle.std.proofs.Common.{◌≡◌, ◌∙◌, ◌∷◌, ◌++◌, [], ℕ, true, List, append-nil, append_assoc, flat_map, map, refl, sym, ap}
use Rattle.std.specs.List.{zip}
use Rattle.std.proofs.lemmas.Grind.{flat_map-append}
use Rattle.dk_base.specs.Names.{escaped}
use Rattle.dk_base.specs.declared.values.Value.{Value}
use Rattle.dk_decl.specs.declared.decls.PointDecl.{PointDecl}
use Rattle.dk_lines.specs.Passing.{joined}
use Rattle.dk_write.specs.Records.{mark_text, told_lines, value_text}
use Rattle.dk_write.specs.Texts.{Begins, Declares, Records, block_text, trace_text}
use Rattle.dk_table.specs.Writing.Forms.{cell_lines, form_of, heading_of, row_text, rows_text}
use Rattle.dk_table.specs.Tables.Cursors.{Cursor, Moves}
use Rattle.dk_table.specs.Tables.PlacedRows.{Placed}
use Rattle.dk_table.specs.Traces.{IsPlan, declaration_of, plan_writes, record_of, records_of, value_at, var_of, writes_of}
use Rattle.dk_table.specs.declared.columns.ColumnKind.{ColumnKind}
use Rattle.dk_table.specs.Tables.{bodies_in}
use Rattle.dk_table.specs.declared.words.command.Command.{Command}
use Rattle.dk_table.specs.declared.writing.traces.Plan.{Plan}
use Rattle.dk_table.specs.declared.writing.Form.{Form}
use Rattle.dk_table.proofs.Moving.{moved}

abbrev line : List ℕ → List ℕ
line l = l ++ 10 ∷ []

cells_told : (names : List (List ℕ)) (kinds : List ColumnKind) (cells : List (List ℕ))
    → flat_map cell_lines (zip (map heading_of (zip (map var_of (zip names kinds)) kinds)) cells)
    ≡ joined (flat_map told_lines (zip (map var_of (zip names kinds)) (map value_at (zip kinds cells))))
cells_told [] kinds cells = refl
cells_told (n ∷ ns) [] cells = refl
cells_told (n ∷ ns) (k ∷ ks) [] = refl
cells_told (n ∷ ns) (k ∷ ks) (c ∷ cs) =
    let v : Value = value_at (k, c) in
    let name : List (List ℕ) = escaped (var_of (n, k)).name ∷ [] in
    let told : List (List ℕ) = value_text v ∷ mark_text v ∷ [] in
    let more : List (List ℕ) = flat_map told_lines (zip (map var_of (zip ns ks)) (map value_at (zip ks cs))) in
    append_assoc (joined name) (joined told) (flat_map cell_lines (zip (map heading_of (zip (map var_of (zip ns ks)) ks)) cs))
    ∙ ap (λ (l : List ℕ). joined name ++ (joined told ++ l)) (cells_told ns ks cs)
    ∙ sym (flat_map-append line name (told ++ more) ∙ ap (λ (l : List ℕ). joined name ++ l) (flat_map-append line told more))

module _ (point : List ℕ) (names : List (List ℕ)) (kinds : List ColumnKind) where
  abbrev d : PointDecl
  d = declaration_of point names kinds

  row_told : (row : Placed) → row_text (form_of d kinds) row ≡ block_text (Records (record_of d kinds row))
  unfolding block_text
  row_told row =
      let name : List (List ℕ) = escaped point ∷ [] in
      let told : List (List ℕ) = flat_map told_lines (zip d.vars (map value_at (zip kinds row.cells))) in
      ap (λ (l : List ℕ). joined name ++ (l ++ 10 ∷ [])) (cells_told names kinds row.cells)
      ∙ sym (append_assoc (joined name) (joined told) (10 ∷ [])) ∙ ap (λ (l : List ℕ). l ++ 10 ∷ []) (sym (flat_map-append line name told))

  rows_told : (rows : List Placed) → rows_text (form_of d kinds) rows ≡ trace_text (records_of d kinds rows)
  rows_told [] = refl
  rows_told (row ∷ rows) =
      ap (λ (l : List ℕ). l ++ rows_text (form_of d kinds) rows) (row_told row) ∙ ap (λ (l : List ℕ). block_text (Records (record_of d kinds row)) ++ l) (rows_told rows)

  -- the header lines, the declaration and the rows
  pub trace_told : (text : List ℕ) (rows : List Placed) → text ≡ block_text Begins ++ block_text (Declares d)
      → text ++ rows_text (form_of d kinds) rows ≡ trace_text (writes_of d kinds rows)
  trace_told text rows is =
      ap (λ (l : List ℕ). l ++ rows_text (form_of d kinds) rows) is
      ∙ ap (λ (l : List ℕ). (block_text Begins ++ block_text (Declares d)) ++ l) (rows_told rows)
      ∙ append_assoc (block_text Begins) (block_text (Declares d)) (trace_text (records_of d kinds rows))

-- the same by a plan
pub plan_told : (c : Command) (plan : Plan) (files : List (List ℕ)) (text : List ℕ) → IsPlan plan → text ≡ block_text Begins ++ block_text (Declares plan.decl)
    → text ++ rows_text (form_of plan.decl plan.kinds) (bodies_in c 0 files) ≡ trace_text (plan_writes c plan files)
plan_told c plan files text (point, names, is) begun =
    let rows : List Placed = bodies_in c 0 files in
    ap (λ (d : PointDecl). text ++ rows_text (form_of d plan.kinds) rows) is
    ∙ trace_told point names plan.kinds text rows (begun ∙ ap (λ (d : PointDecl). block_text Begins ++ block_text (Declares d)) is)
    ∙ ap (λ (d : PointDecl). trace_text (writes_of d plan.kinds rows)) (sym is)

-- ---- rows one after another
pub row_apart : (form : Form) (text : List ℕ) (left : List Placed) (after : Cursor) → Moves left after true
    → text ++ rows_text form left ≡ (text ++ row_text form after.row) ++ rows_text form after.left
row_apart form text left after m =
    ap (λ (l : List Placed). text ++ rows_text form l) (moved left after m) ∙ sym (append_assoc text (row_text form after.row) (rows_text form after.left))

pub rows_apart : (form : Form) (text : List ℕ) (all own rest : List Placed) → all ≡ own ++ rest
    → text ++ rows_text form all ≡ (text ++ rows_text form own) ++ rows_text form rest
rows_apart form text all own rest is =
    ap (λ (l : List Placed). text ++ rows_text form l) is ∙ ap (λ (l : List ℕ). text ++ l) (flat_map-append (row_text form) own rest)
    ∙ sym (append_assoc text (rows_text form own) (rows_text form rest))

pub none_apart : (form : Form) (text : List ℕ) (left : List Placed) → left ≡ [] → text ++ rows_text form left ≡ text
none_apart form text left none = ap (λ (l : List Placed). text ++ rows_text form l) none ∙ append-nil text

-- rows behind others
pub text_more : (point : List ℕ) (names : List (List ℕ)) (kinds : List ColumnKind) (front rest : List Placed)
    → trace_text (writes_of (declaration_of point names kinds) kinds (front ++ rest))
    ≡ trace_text (writes_of (declaration_of point names kinds) kinds front) ++ rows_text (form_of (declaration_of point names kinds) kinds) rest
text_more point names kinds front rest =
    let form : Form = form_of (declaration_of point names kinds) kinds in
    let text : List ℕ = block_text Begins ++ block_text (Declares (declaration_of point names kinds)) in
    sym (trace_told point names kinds text (front ++ rest) refl) ∙ rows_apart form text (front ++ rest) front rest refl
    ∙ ap (λ (l : List ℕ). l ++ rows_text form rest) (trace_told point names kinds text front refl)
