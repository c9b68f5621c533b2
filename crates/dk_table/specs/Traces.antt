-- The trace of a table.
use Rattle.std.specs.Prelude.{◌≡◌, ◌&&◌, ◌++◌, ◌∷◌, [], ℕ, Bool, false, not, negsuc, List, Option, Some, None, Result, Ok, Err, codes, find, is_some, length, map, option_map, replicate, take, unwrap_or, if◌then◌else◌}
use Rattle.std.specs.List.{list_all, range_with_len, zip}
use Rattle.dk_base.specs.declared.kinds.Compar.{Compar}
use Rattle.dk_base.specs.declared.kinds.Kind.{Kind}
use Rattle.dk_base.specs.declared.kinds.Kind.TheVariants as own
use Rattle.dk_base.specs.declared.values.Value.{Value}
use Rattle.dk_base.specs.declared.values.Value.TheVariants as value
use Rattle.dk_decl.specs.declared.decls.PointDecl.{PointDecl}
use Rattle.dk_decl.specs.declared.decls.VarDecl.{VarDecl}
use Rattle.dk_write.specs.Records.{Recorded}
use Rattle.dk_write.specs.Texts.{Begins, Declares, Records, Write}
use Rattle.dk_write.specs.Writable.{can_declare, can_record}
use Rattle.dk_table.specs.Columns.{cell_value, kind_of_column}
use Rattle.dk_table.specs.Tables.PlacedRows.{Placed, cells_at}
use Rattle.dk_table.specs.Tables.{◌>>=◌, bodies_in, first_of, names_of, refused, rows_in, rows_of_all}
use Rattle.dk_table.specs.declared.words.command.Command.{Command}
use Rattle.dk_table.specs.declared.columns.ColumnKind.{ColumnKind}
use Rattle.dk_table.specs.declared.columns.ColumnKind.TheVariants as kind
use Rattle.dk_table.specs.declared.faults.Refusal.{Refusal}
use Rattle.dk_table.specs.declared.faults.TableWhy.TheVariants.{BadCell, BadName}
use Rattle.dk_table.specs.declared.writing.traces.Plan.{Plan}

-- the rows by which kinds are found: so many, or all
abbrev pub judged : Option ℕ → List Placed → List Placed
judged None rows = rows
judged (Some n) rows = take n rows

-- the kinds of the columns
abbrev pub kinds_of : List Placed → ℕ → List ColumnKind
kinds_of rows columns = map (λ place. kind_of_column (cells_at rows place)) (range_with_len 0 columns)

-- ---- the declaration

abbrev pub own_kind : ColumnKind → Kind
own_kind kind.Whole = own.Int
own_kind (kind.Truth words) = own.Bool
own_kind (kind.Decimal places) = own.Int
own_kind kind.Text = own.Str

-- the name of decimals that are taken times 10 to their places, as in `price * 100`; 48 is the digit 0
abbrev pub scaled_name : List ℕ → ℕ → List ℕ
scaled_name name places = name ++ codes " * 1" ++ replicate places 48

-- the name of a column's variable
abbrev pub var_name : List ℕ → ColumnKind → List ℕ
var_name name kind.Whole = name
var_name name (kind.Truth words) = name
var_name name (kind.Decimal places) = scaled_name name places
var_name name kind.Text = name

-- a number's comparability that says nothing
abbrev pub any_compar : Compar
any_compar = record { elem = negsuc 0; index = negsuc 0 }

abbrev pub var_of : List ℕ × ColumnKind → VarDecl
var_of e = record {
  name = var_name e.0 e.1;
  kind = Some (own_kind e.1);
  compar = any_compar;
  constant = None;
  constant_line = false;
  parents = [];
}

-- one point, with a variable for each column
abbrev pub declaration_of : List ℕ → List (List ℕ) → List ColumnKind → PointDecl
declaration_of point names kinds = record { name = point; edges = []; vars = map var_of (zip names kinds) }

-- ---- the records

abbrev pub value_at : ColumnKind × List ℕ → Value
value_at e = unwrap_or (cell_value e.0 e.1) value.Missing

abbrev pub record_of : PointDecl → List ColumnKind → Placed → Recorded
record_of d kinds row = record { decl = d; nonce = None; values = map value_at (zip kinds row.cells) }

abbrev pub records_of : PointDecl → List ColumnKind → List Placed → List Write
records_of d kinds rows = map (λ row. Records (record_of d kinds row)) rows

-- the header lines, the declaration, and a record for each row
abbrev pub writes_of : PointDecl → List ColumnKind → List Placed → List Write
writes_of d kinds rows = Begins ∷ (Declares d ∷ records_of d kinds rows)

-- ---- what can't be told

-- each cell writes a value of its column's kind
abbrev pub is_told : List ColumnKind → Placed → Bool
is_told kinds row = list_all (λ e. is_some (cell_value e.0 e.1)) (zip kinds row.cells)

-- a record with no value
abbrev pub empty_record : PointDecl → Recorded
empty_record d = record { decl = d; nonce = None; values = replicate (length d.vars) value.Missing }

-- the point and the variables have names that lines tell
abbrev pub are_named : PointDecl → Bool
are_named d = can_declare d && can_record (empty_record d)

-- the first row with a cell that is none of its column's kind
abbrev pub untold_row : List ColumnKind → List Placed → Option Placed
untold_row kinds rows = find (λ row. not (is_told kinds row)) rows

abbrev pub bad_cell : Placed → Refusal
bad_cell row = record { file = row.file; row = row.number; why = BadCell }

abbrev pub if_told : Option Refusal → List Write → Result (List Write) Refusal
if_told (Some refusal) ws = Err refusal
if_told None ws = Ok ws

-- ---- the trace
-- the trace of a table with this declaration and columns of these kinds, or why there is none
unfoldable pub trace_by : PointDecl → List ColumnKind → List Placed → Result (List Write) Refusal
trace_by d kinds rows =
    if are_named d then if_told (option_map bad_cell (untold_row kinds rows)) (writes_of d kinds rows) else refused 0 1 BadName

abbrev pub trace_with : List ℕ → List (List ℕ) → List ColumnKind → List Placed → Result (List Write) Refusal
trace_with point names kinds rows = trace_by (declaration_of point names kinds) kinds rows

-- The trace of a table, or why there is none. Kinds are found by so many rows, or by all.
abbrev pub trace_of_table : List ℕ → Option ℕ → List (List ℕ) → List Placed → Result (List Write) Refusal
trace_of_table point types names rows = trace_with point names (kinds_of (judged types rows) (length names)) rows

-- The trace of the tables in files of these bytes at the point of this name, or why there is none: names by the first row, the rows of all
-- files, and then the trace.
abbrev pub trace_at : Command → List ℕ → List (List ℕ) → Result (List Write) Refusal
trace_at c point files =
    names_of c.has_header (rows_in c.separator 0 (first_of files)) >>= λ names. rows_of_all c names 0 files >>= λ rows.
    trace_of_table point c.types names rows

-- The point's name is the one that is asked for, or this one.
abbrev pub trace_of : Command → List ℕ → List (List ℕ) → Result (List Write) Refusal
trace_of c name files = trace_at c (unwrap_or c.point name) files

-- ---- how it is written
-- the kinds of the columns of the tables in files of these bytes
abbrev pub kinds_in : Command → List (List ℕ) → List (List ℕ) → Result (List ColumnKind) Refusal
kinds_in c names files = rows_of_all c names 0 files >>= λ rows. Ok (kinds_of (judged c.types rows) (length names))

-- the trace of the tables in files of these bytes, by a plan
abbrev pub plan_writes : Command → Plan → List (List ℕ) → List Write
plan_writes c plan files = writes_of plan.decl plan.kinds (bodies_in c 0 files)

-- its declaration is that of columns of its kinds
abbrev pub IsPlan : Plan → Type 0
IsPlan plan = (point : List ℕ) × (names : List (List ℕ)) × (plan.decl ≡ declaration_of point names plan.kinds)

-- Where kinds were found by all rows, each cell is of its column's kind.
abbrev pub IsJudged : Command → Plan → List (List ℕ) → Type 0
IsJudged c plan files = c.types ≡ None → untold_row plan.kinds (bodies_in c 0 files) ≡ None
