-- Tables whose rows are written as they come, where kinds are found by the rows in front.
pub mod Pieces
pub mod Progress
pub mod Stages
pub mod Stops
use Rattle.std.specs.Prelude.{◌&&◌, ◌||◌, ◌+◌, ◌==◌, ◌++◌, ◌∷◌, [], ℕ, zero, suc, Bool, true, false, List, Option, Some, None, Result, Ok, Err, flat_map, is_none, length, map, nat_le, take, if◌then◌else◌}
use Rattle.csv.specs.Reading.{records}
use Rattle.dk_decl.specs.declared.decls.PointDecl.{PointDecl}
use Rattle.dk_write.specs.Texts.{Write}
use Rattle.dk_table.specs.Tables.{◌>>=◌, are_paired, config_by, is_uneven, names_by, placed_from, refused, rows_in, same_cells}
use Rattle.dk_table.specs.Tables.PlacedRows.{Placed}
use Rattle.dk_table.specs.Traces.{are_named, bad_cell, declaration_of, is_told, kinds_of, records_of, writes_of}
use Rattle.dk_table.specs.declared.columns.ColumnKind.{ColumnKind}
use Rattle.dk_table.specs.declared.faults.Refusal.{Refusal}
use Rattle.dk_table.specs.declared.faults.TableWhy.TheVariants.{BadName, NoHeader, OpenQuote, OtherHeader, RowLength}
use Rattle.dk_table.specs.declared.words.command.Command.{Command}

-- ---- rows in order, and what is refused among them
-- A row that stands, or why the table is refused at this place.
abbrev pub Step : Type 0
Step = Result Placed Refusal

-- a row has as many cells as there are columns
abbrev pub even_step : ℕ → Placed → Step
even_step columns row = if is_uneven columns row then refused row.file row.number RowLength else Ok row

-- a header has to name the columns
abbrev pub header_steps : List (List ℕ) → Placed → List Step
header_steps names row = if same_cells names row.cells then [] else refused row.file 1 OtherHeader ∷ []

-- The first row of a file is its header, where there is one.
abbrev pub row_steps : Bool → List (List ℕ) → Placed → List Step
row_steps header names row = if header && (row.number == 1) then header_steps names row else even_step (length names) row ∷ []

abbrev pub rows_steps : Bool → List (List ℕ) → List Placed → List Step
rows_steps header names rows = flat_map (row_steps header names) rows

-- What is known at the end of a file with so many rows: that it has none, or that its quotes don't go in pairs.
abbrev pub end_steps : ℕ → ℕ → Bool → List Step
end_steps file zero paired = refused file 1 NoHeader ∷ []
end_steps file (suc n) paired = if paired then [] else refused file (suc n) OpenQuote ∷ []

abbrev pub file_steps : Command → List (List ℕ) → ℕ → List ℕ → List Step
file_steps c names file bytes =
    let rows = rows_in c.separator file bytes in rows_steps c.has_header names rows ++ end_steps file (length rows) (are_paired bytes)

-- those of all files, the first of which has this place
abbrev pub all_steps : Command → List (List ℕ) → ℕ → List (List ℕ) → List Step
all_steps c names file [] = []
all_steps c names file (bytes ∷ more) = file_steps c names file bytes ++ all_steps c names (file + 1) more

-- ---- up to the first that is refused
-- the rows in front of it
abbrev pub rows_before : List Step → List Placed
rows_before [] = []
rows_before (Ok row ∷ steps) = row ∷ rows_before steps
rows_before (Err refusal ∷ steps) = []

-- what is refused first
abbrev pub first_refusal : List Step → Option Refusal
first_refusal [] = None
first_refusal (Ok row ∷ steps) = first_refusal steps
first_refusal (Err refusal ∷ steps) = Some refusal

-- a row whose cells write values of these kinds
abbrev pub told_step : List ColumnKind → Step → Step
told_step kinds step = step >>= λ row. if is_told kinds row then Ok row else Err (bad_cell row)

abbrev pub told_steps : List ColumnKind → List Step → List Step
told_steps kinds steps = map (told_step kinds) steps

-- ---- the trace
-- What is written, and why no more is. Where nothing is written, there are no blocks.
pub record Stream : Type 0 where
  pub written : List Write
  pub refusal : Option Refusal

abbrev pub nothing : Stream
nothing = record { written = []; refusal = None }

abbrev pub nothing_but : Refusal → Stream
nothing_but refusal = record { written = []; refusal = Some refusal }

-- the records of the rows in front of the first that is refused
abbrev pub records_by : PointDecl → List ColumnKind → List Step → Stream
records_by d kinds steps = record { written = records_of d kinds (rows_before steps); refusal = first_refusal steps }

-- the trace of the rows in front of the first that is refused
abbrev pub trace_before : PointDecl → List ColumnKind → List Step → Stream
trace_before d kinds steps = record { written = writes_of d kinds (rows_before steps); refusal = first_refusal steps }

-- with columns of these kinds
unfoldable pub stream_by : PointDecl → List ColumnKind → List Step → Stream
stream_by d kinds steps =
    if are_named d then trace_before d kinds (told_steps kinds steps) else nothing_but (record { file = 0; row = 1; why = BadName })

-- The kinds are found by so many rows. All rows have come, or as many; else nothing is written yet.
abbrev pub stream_known : List ℕ → List (List ℕ) → ℕ → Bool → List Step → Stream
stream_known point names types ended steps =
    if ended || nat_le types (length steps)
    then (let kinds = kinds_of (rows_before (take types steps)) (length names) in stream_by (declaration_of point names kinds) kinds steps)
    else nothing

-- What is refused among the rows by which kinds are found is refused before anything is written.
abbrev pub stream_behind : List ℕ → List (List ℕ) → ℕ → Bool → List Step → Option Refusal → Stream
stream_behind point names types ended steps (Some refusal) = nothing_but refusal
stream_behind point names types ended steps None = stream_known point names types ended steps

unfoldable pub stream_with : List ℕ → List (List ℕ) → ℕ → Bool → List Step → Stream
stream_with point names types ended steps = stream_behind point names types ended steps (first_refusal (take types steps))

-- ---- files that are read to their ends, and the front of the next
-- the rows of bytes that stand behind a file's byte order mark
abbrev pub text_rows : ℕ → ℕ → List ℕ → List Placed
text_rows separator file text = placed_from file 1 (records (config_by separator) text)

-- Those of the file that isn't read to its end, behind its byte order mark. There is none where all are.
abbrev pub next_rows : ℕ → ℕ → Option (List ℕ) → List Placed
next_rows separator file None = []
next_rows separator file (Some front) = text_rows separator file front

-- the rows of the first file
abbrev pub first_rows : ℕ → List (List ℕ) → Option (List ℕ) → List Placed
first_rows separator [] next = next_rows separator 0 next
first_rows separator (bytes ∷ more) next = rows_in separator 0 bytes

-- the cells of the first row; none where there is no row
abbrev pub first_cells : List Placed → List (List ℕ)
first_cells [] = []
first_cells (row ∷ rows) = row.cells

-- the names that the first file's first row gives
abbrev pub names_in : Command → List (List ℕ) → Option (List ℕ) → List (List ℕ)
names_in c contents next = names_by c.has_header (first_cells (first_rows c.separator contents next))

-- What files with these contents, and the front of the next, come to at the point of this name.
abbrev pub stream_in : Command → List ℕ → ℕ → List (List ℕ) → Option (List ℕ) → Stream
stream_in c point types contents next =
    let names = names_in c contents next in
    stream_with point names types (is_none next)
    (all_steps c names 0 contents ++ rows_steps c.has_header names (next_rows c.separator (length contents) next))

abbrev pub no_rows : Stream
no_rows = nothing_but (record { file = 0; row = 1; why = NoHeader })

-- what the files' tables come to
abbrev pub stream_at : Command → List ℕ → ℕ → List (List ℕ) → Stream
stream_at c point types [] = no_rows
stream_at c point types (bytes ∷ more) = stream_in c point types (bytes ∷ more) None

-- what these rows come to where more may follow, headers among them
abbrev pub rows_stream : Command → List ℕ → ℕ → List Placed → Stream
rows_stream c point types rows =
    let names = names_by c.has_header (first_cells rows) in stream_with point names types false (rows_steps c.has_header names rows)

-- what they come to where no more follow
abbrev pub ended_stream : Command → List ℕ → ℕ → List Placed → Stream
ended_stream c point types [] = no_rows
ended_stream c point types (row ∷ rows) =
    let names = names_by c.has_header row.cells in stream_with point names types true (rows_steps c.has_header names (row ∷ rows))
