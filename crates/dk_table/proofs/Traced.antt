-- A trace of a table is what a writer writes.
use Rattle.std.proofs.Common.{◌≡◌, ◌+◌, ◌∙◌, ◌==◌, ◌&&◌, ◌∷◌, ◌++◌, [], ℕ, Bool, true, false, List, Option, Some, None, Result, Ok, length, option_map, refl, sym, ap, subst, if◌then◌else◌}
use Rattle.std.specs.Prelude.{find, not, unwrap_or}
use Rattle.std.proofs.lemmas.Bool.{and_parts, eqb-true, not-false}
use Rattle.std.proofs.lemmas.List.FromFn.{length-map-range_with_len}
use Rattle.dk_blocks.specs.Blocks.{groups_of}
use Rattle.dk_blocks.specs.History.{effect_of}
use Rattle.dk_blocks.specs.Reading.{after_all}
use Rattle.dk_decl.specs.declared.decls.PointDecl.{PointDecl}
use Rattle.dk_lines.specs.Left.{lines_of, numbered}
use Rattle.dk_write.specs.Course.{AreWritten, done_all}
use Rattle.dk_write.specs.Texts.{Declares, Write, trace_text}
use Rattle.dk_write.specs.Writable.{can_declare, can_record}
use Rattle.dk_write.proofs.Written.{written_read}
use Rattle.dk_table.specs.Columns.{kind_of_column}
use Rattle.dk_table.specs.Laws.{HasTable, TablesAreRead}
use Rattle.dk_table.specs.Tables.PlacedRows.{Placed, cells_at}
use Rattle.dk_table.specs.Tables.{◌>>=◌, are_paired, behind_header, file_rows, first_of, if_even, is_uneven, names_of, refused, rows_in, rows_of, rows_of_all, same_cells, uneven_row}
use Rattle.dk_table.specs.Traces.{are_named, bad_cell, declaration_of, empty_record, if_told, judged, kinds_of, records_of, trace_by, trace_of, trace_of_table, untold_row, writes_of}
use Rattle.dk_table.specs.declared.columns.ColumnKind.{ColumnKind}
use Rattle.dk_table.specs.declared.words.command.Command.{Command}
use Rattle.dk_table.specs.declared.faults.Refusal.{Refusal}
use Rattle.dk_table.specs.declared.faults.TableWhy.TheVariants.{BadName, OpenQuote, OtherHeader}
use Rattle.dk_table.proofs.Bodies.{bound}
use Rattle.dk_table.proofs.Telling.{AreEven, declaration_within, none_found, rows_written}

-- ---- rows of as many cells

even_append : (columns : ℕ) (front rest : List Placed) → AreEven columns front → AreEven columns rest → AreEven columns (front ++ rest)
even_append columns [] rest h k = k
even_append columns (row ∷ front) rest h k = (h.0, even_append columns front rest h.1 k)

all_even : (columns : ℕ) (rows : List Placed) → find (is_uneven columns) rows ≡ None → AreEven columns rows
all_even columns [] e = tt
all_even columns (row ∷ rows) e =
    let found = none_found (is_uneven columns) row rows e in
    (eqb-true (length row.cells) columns (not-false (length row.cells == columns) found.0), all_even columns rows found.1)

even_behind : (columns : ℕ) (header : Bool) (rows : List Placed) → AreEven columns rows → AreEven columns (behind_header header rows)
even_behind columns false rows h = h
even_behind columns true [] h = tt
even_behind columns true (row ∷ rows) h = h.1

rows_even : (header : Bool) (names : List (List ℕ)) (file : ℕ) (all rows : List Placed) → rows_of header names file all ≡ Ok rows → AreEven (length names) rows
rows_even header names file [] rows e = absurd (cc e)
rows_even header names file (first ∷ rest) rows e = by (header && not (same_cells names first.cells)) e
  where
    all : List Placed
    all = first ∷ rest

    if_none : (o : Option Placed) → find (is_uneven (length names)) all ≡ o → if_even file (option_map (λ row. row.number) o) (Ok (behind_header header all)) ≡ Ok rows
        → AreEven (length names) rows
    if_none (Some row) is e = absurd (cc e)
    if_none None is e =
        let same : behind_header header all ≡ rows = cc e in
        subst (AreEven (length names)) same (even_behind (length names) header all (all_even (length names) all is))

    by : (b : Bool) → (if b then refused file 1 OtherHeader else if_even file (uneven_row (length names) all) (Ok (behind_header header all))) ≡ Ok rows
        → AreEven (length names) rows
    by true e = absurd (cc e)
    by false e = if_none (find (is_uneven (length names)) all) refl e

file_even : (c : Command) (names : List (List ℕ)) (file : ℕ) (bytes : List ℕ) (rows : List Placed) → file_rows c names file bytes ≡ Ok rows → AreEven (length names) rows
file_even c names file bytes rows e = by (are_paired bytes) e
  where
    own : List Placed
    own = rows_in c.separator file bytes

    by : (b : Bool) → (if b then rows_of c.has_header names file own else refused file (length own) OpenQuote) ≡ Ok rows → AreEven (length names) rows
    by true e = rows_even c.has_header names file own rows e
    by false e = absurd (cc e)

files_even : (c : Command) (names : List (List ℕ)) (file : ℕ) (files : List (List ℕ)) (rows : List Placed) → rows_of_all c names file files ≡ Ok rows → AreEven (length names) rows
files_even c names file [] rows e =
    let none : List Placed = [] in
    let same : none ≡ rows = cc e in
    subst (AreEven (length names)) same tt
files_even c names file (bytes ∷ more) rows e =
    let front = bound (file_rows c names file bytes) (λ front. rows_of_all c names (file + 1) more >>= λ rest. Ok (front ++ rest)) rows e in
    let rest = bound (rows_of_all c names (file + 1) more) (λ rest. Ok (front.0 ++ rest)) rows front.2 in
    let same : front.0 ++ rest.0 ≡ rows = cc rest.2 in
    subst (AreEven (length names)) same
    (even_append (length names) front.0 rest.0 (file_even c names file bytes front.0 front.1) (files_even c names (file + 1) more rest.0 rest.1))

-- ---- a table with a trace

pub record IsTraced (d : PointDecl) (kinds : List ColumnKind) (rows : List Placed) (ws : List Write) : Type 0 where
  pub declared : can_declare d ≡ true
  pub recorded : can_record (empty_record d) ≡ true
  pub told : untold_row kinds rows ≡ None
  pub is : writes_of d kinds rows ≡ ws

pub traced : (d : PointDecl) (kinds : List ColumnKind) (rows : List Placed) (ws : List Write) → trace_by d kinds rows ≡ Ok ws → IsTraced d kinds rows ws
unfolding trace_by
traced d kinds rows ws e = by (are_named d) (untold_row kinds rows) refl refl e
  where
    by : (b : Bool) (o : Option Placed) → are_named d ≡ b → untold_row kinds rows ≡ o
        → (if b then if_told (option_map bad_cell o) (writes_of d kinds rows) else refused 0 1 BadName) ≡ Ok ws → IsTraced d kinds rows ws
    by false o named told e = absurd (cc e)
    by true (Some row) named told e = absurd (cc e)
    by true None named told e =
        let both = and_parts (can_declare d) (can_record (empty_record d)) named in
        record { declared = both.0; recorded = both.1; told = told; is = cc e }

pub kinds_length : (rows : List Placed) (columns : ℕ) → length (kinds_of rows columns) ≡ columns
kinds_length rows columns = length-map-range_with_len (λ (place : ℕ). kind_of_column (cells_at rows place)) 0 columns

-- the trace of what the files' tables have
pub made_of : (c : Command) (name : List ℕ) (files : List (List ℕ)) (ws : List Write) (t : HasTable c files) → trace_of c name files ≡ Ok ws
    → IsTraced (declaration_of (unwrap_or c.point name) t.names (kinds_of (judged c.types t.rows) (length t.names))) (kinds_of (judged c.types t.rows) (length t.names)) t.rows ws
made_of c name files ws t e =
    let kinds : List ColumnKind = kinds_of (judged c.types t.rows) (length t.names) in
    traced (declaration_of (unwrap_or c.point name) t.names kinds) kinds t.rows ws
    (sym (ap (λ (r : Result (List (List ℕ)) Refusal). r >>= λ names. rows_of_all c names 0 files >>= λ rows. trace_of_table (unwrap_or c.point name) c.types names rows) t.named
    ∙ ap (λ (r : Result (List Placed) Refusal). r >>= λ rows. trace_of_table (unwrap_or c.point name) c.types t.names rows) t.read) ∙ e)

-- a table with a trace has names and rows
pub table_of : (c : Command) (name : List ℕ) (files : List (List ℕ)) (ws : List Write) → trace_of c name files ≡ Ok ws → HasTable c files
table_of c name files ws e =
    let named = bound (names_of c.has_header (rows_in c.separator 0 (first_of files)))
    (λ names. rows_of_all c names 0 files >>= λ rows. trace_of_table (unwrap_or c.point name) c.types names rows) ws e in
    let read = bound (rows_of_all c named.0 0 files) (λ rows. trace_of_table (unwrap_or c.point name) c.types named.0 rows) ws named.2 in
    record { names = named.0; rows = read.0; named = named.1; read = read.1 }

pub tables_read : TablesAreRead
tables_read c name files ws e ignores h awaits =
    let t : HasTable c files = table_of c name files ws e in
    let point : List ℕ = unwrap_or c.point name in
    let kinds : List ColumnKind = kinds_of (judged c.types t.rows) (length t.names) in
    let d : PointDecl = declaration_of point t.names kinds in
    let made : IsTraced d kinds t.rows ws = made_of c name files ws t e in
    let written : AreWritten [] (Declares d ∷ records_of d kinds t.rows) = (
      made.declared,
      declaration_within point t.names kinds,
      rows_written point t.names kinds t.rows (kinds_length (judged c.types t.rows) (length t.names)) made.recorded (files_even c t.names 0 files t.rows t.read) made.told,
    ) in
    subst (λ (us : List Write). after_all ignores (effect_of ignores h) (groups_of (numbered 0 (lines_of (trace_text us)))) ≡ done_all ignores h 1 us) made.is
    (written_read ignores h (Declares d ∷ records_of d kinds t.rows) awaits written)
