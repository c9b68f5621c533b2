-- Going through the rows of a file.
use Rattle.std.specs.Prelude.{◌≡◌, ◌<◌, ◌+◌, ◌^◌, ℕ, false, List, [], ◌∷◌, Bool, true, length, Option, Some, None}
use Rattle.std.specs.Borrow.{Bor}
use Rattle.std.specs.Io.Chain.{chain_remaining}
use Rattle.std.specs.declared.io.traits.Chain.{Chain}
use Rattle.csv.specs.Machine.{ends_at_end}
use Rattle.csv.specs.Reading.{Ready, has_failed, is_flexible, reader_config, reader_state, reader_trim, records_from, source_of}
use Rattle.csv.specs.declared.parser.Config.{Config}
use Rattle.csv.specs.declared.parser.State.{State}
use Rattle.csv.specs.declared.reader.Reader.{Reader}
use Rattle.csv.specs.declared.reader.Trim.TheVariants as trim
use Rattle.dk_table.specs.Tables.{placed_from}
use Rattle.dk_table.specs.Tables.PlacedRows.{Placed}

-- the row that was read last, and the rows that are left
pub record Cursor : Type 0 where
  pub row : Placed
  pub left : List Placed

-- the row of this number in a file
abbrev pub line_row : ℕ → ℕ → List (List ℕ) → Placed
line_row file number cells = record { file = file; number = number; cells = cells }

-- ---- what a reader has left
-- bytes, and others behind them
abbrev pub Bytes : Type 0
Bytes = Chain (Bor (List ℕ)) (Bor (List ℕ))

abbrev pub bytes_in : Bytes → Option (List ℕ)
bytes_in bytes = chain_remaining (λ s. Some s.now) (λ s. Some s.now) bytes

-- the bytes, where it has not failed
abbrev pub bytes_left : Reader Bytes → Option (List ℕ)
bytes_left reader = source_of bytes_in reader

-- the rows of these bytes, behind this row
abbrev pub rows_of_bytes : Placed → Config → State → Option (List ℕ) → List Placed
rows_of_bytes row cfg s None = []
rows_of_bytes row cfg s (Some bytes) = placed_from row.file (row.number + 1) (records_from cfg (length bytes + 1) s bytes)

abbrev pub rows_left : Placed → Reader Bytes → List Placed
rows_left row reader = rows_of_bytes row (reader_config reader) (reader_state reader) (bytes_left reader)

-- A reader that has not failed gives each record as it stands, whatever its length, and is behind the end of one. There are as many numbers
-- left as rows.
pub record IsReading (row : Placed) (reader : Reader Bytes) : Type 0 where
  pub going : has_failed reader ≡ false
  pub untrimmed : reader_trim reader ≡ trim.None
  pub ready : Ready reader
  pub flexible : is_flexible reader ≡ true
  pub between : ends_at_end (reader_state reader) ≡ false
  pub numbered : row.number + length (rows_left row reader) < 2 ^ 64

-- ---- a step
-- The next row was found, and is no longer left; none was found where none was left, and then none is.
abbrev pub Moves : List Placed → Cursor → Bool → Type 0
Moves [] after found = (found ≡ false) × (after.left ≡ [])
Moves (row ∷ rest) after found = (found ≡ true) × (after ≡ record { row = row; left = rest })
