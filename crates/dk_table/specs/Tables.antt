-- Tables: the rows of cells of some files.
pub mod Chunks
pub mod Contents
pub mod Cursors
pub mod Cutting
pub mod Marks
pub mod PlacedRows
pub mod Sources
use Rattle.std.specs.Prelude.{◌&&◌, ◌==◌, ◌+◌, ◌%◌, ◌++◌, ◌∷◌, [], ℕ, Bool, not, List, Option, Some, None, Result, Ok, Err, codes, count_by, drop, find, length, map, option_map, if◌then◌else◌}
use Rattle.std.specs.Fmt.{decimal}
use Rattle.std.specs.List.{list_all, range_with_len, zip}
use Rattle.std.specs.Str.{bytes_eq}
use Rattle.csv.specs.Reading.{default_config, records, strip_bom}
use Rattle.csv.specs.declared.parser.Config.{Config}
use Rattle.dk_table.specs.Tables.PlacedRows.{Placed}
use Rattle.dk_table.specs.declared.faults.Refusal.{Refusal}
use Rattle.dk_table.specs.declared.faults.TableWhy.{TableWhy}
use Rattle.dk_table.specs.declared.faults.TableWhy.TheVariants.{NoHeader, OpenQuote, OtherHeader, RowLength}
use Rattle.dk_table.specs.declared.words.command.Command.{Command}

-- ---- the rows of a file

-- how files are read: this byte stands between cells, and two quotes (34) within quotes stand for one
abbrev pub config_by : ℕ → Config
config_by separator = record default_config { delimiter = separator }

-- rows with their places, the first of which has this number in its file
abbrev pub placed_from : ℕ → ℕ → List (List (List ℕ)) → List Placed
placed_from file number [] = []
placed_from file number (cells ∷ rows) = record { file = file; number = number; cells = cells } ∷ placed_from file (number + 1) rows

-- The rows of a file's bytes. A byte order mark in front, and blank lines, are read past.
abbrev pub rows_in : ℕ → ℕ → List ℕ → List Placed
rows_in separator file bytes = placed_from file 1 (records (config_by separator) (strip_bom bytes))

-- ---- the rows of a table

-- as many cells, and the same bytes in each
abbrev pub same_cells : List (List ℕ) → List (List ℕ) → Bool
same_cells names cells = length names == length cells && list_all (λ e. bytes_eq e.0 e.1) (zip names cells)

abbrev pub is_uneven : ℕ → Placed → Bool
is_uneven columns row = not (length row.cells == columns)

-- the number of the first row with another number of cells than there are columns
abbrev pub uneven_row : ℕ → List Placed → Option ℕ
uneven_row columns rows = option_map (λ row. row.number) (find (is_uneven columns) rows)

-- a table is refused at a row of a file
abbrev pub refused : {A : Type 0} → ℕ → ℕ → TableWhy → Result A Refusal
refused file row why = Err (record { file = file; row = row; why = why })

-- such a row is refused
abbrev pub if_even : ℕ → Option ℕ → Result (List Placed) Refusal → Result (List Placed) Refusal
if_even file (Some row) rows = refused file row RowLength
if_even file None rows = rows

-- the rows behind the header, where there is one
abbrev pub behind_header : Bool → List Placed → List Placed
behind_header header rows = if header then drop 1 rows else rows

-- the rows of a file's bytes behind its header, where there is one
abbrev pub body_in : Command → ℕ → List ℕ → List Placed
body_in c file bytes = behind_header c.has_header (rows_in c.separator file bytes)

-- those of all files, the first of which has this place
abbrev pub bodies_in : Command → ℕ → List (List ℕ) → List Placed
bodies_in c file [] = []
bodies_in c file (bytes ∷ more) = body_in c file bytes ++ bodies_in c (file + 1) more

-- The rows of the file at this place that belong to a table with columns of these names. A header has to name them.
abbrev pub rows_of : Bool → List (List ℕ) → ℕ → List Placed → Result (List Placed) Refusal
rows_of header names file [] = refused file 1 NoHeader
rows_of header names file (first ∷ rest) =
    if header && not (same_cells names first.cells) then refused file 1 OtherHeader
    else if_even file (uneven_row (length names) (first ∷ rest)) (Ok (behind_header header (first ∷ rest)))

-- the quotes (34) go in pairs
abbrev pub are_paired : List ℕ → Bool
are_paired bytes = count_by (λ b. b == 34) bytes % 2 == 0

-- the rows of the file at this place, of these bytes
abbrev pub file_rows : Command → List (List ℕ) → ℕ → List ℕ → Result (List Placed) Refusal
file_rows c names file bytes =
    let rows = rows_in c.separator file bytes in
    if are_paired bytes then rows_of c.has_header names file rows else refused file (length rows) OpenQuote

infixl 10 ◌>>=◌
abbrev pub ◌>>=◌ : {A B : Type 0} → Result A Refusal → (A → Result B Refusal) → Result B Refusal
Ok x >>= f = f x
Err refusal >>= f = Err refusal

-- the rows of all files, the first of which has this place
abbrev pub rows_of_all : Command → List (List ℕ) → ℕ → List (List ℕ) → Result (List Placed) Refusal
rows_of_all c names file [] = Ok []
rows_of_all c names file (bytes ∷ more) =
    file_rows c names file bytes >>= λ front. rows_of_all c names (file + 1) more >>= λ rest. Ok (front ++ rest)

-- ---- the columns

-- `column1` and so on
abbrev pub made_name : ℕ → List ℕ
made_name place = codes "column" ++ decimal (place + 1)

abbrev pub made_names : ℕ → List (List ℕ)
made_names count = map made_name (range_with_len 0 count)

-- the names of the columns by the first row: its cells, or made ones
abbrev pub names_by : Bool → List (List ℕ) → List (List ℕ)
names_by header cells = if header then cells else made_names (length cells)

-- the names that the first file's first row gives
abbrev pub names_of : Bool → List Placed → Result (List (List ℕ)) Refusal
names_of header [] = refused 0 1 NoHeader
names_of header (first ∷ rest) = Ok (names_by header first.cells)

-- the bytes of the first file
abbrev pub first_of : List (List ℕ) → List ℕ
first_of [] = []
first_of (bytes ∷ more) = bytes
