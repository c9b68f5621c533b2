-- Files that are read piece by piece, and cut into chunks of whole rows.
use Rattle.std.specs.Prelude.{◌≡◌, ◌≤◌, ◌+◌, ◌++◌, [], ◌⊎◌, ⊤, ℕ, Bool, true, false, List, Option, Some, Result, Ok, Err, flat_map, length, nat_lt, if◌then◌else◌}
use Rattle.std.specs.Io.KnownBytes.{IsAtEnd, prepend_known}
use Rattle.csv.specs.Reading.{records, strip_bom}
use Rattle.dk_io.specs.Outside.{HeldFile, Untold, Absent, Holds}
use Rattle.dk_table.specs.Tables.Chunks.{EndsRow}
use Rattle.dk_table.specs.Tables.PlacedRows.{Placed}
use Rattle.dk_table.specs.Tables.{config_by, placed_from}
use Rattle.dk_table.specs.declared.streaming.held.Chunk.{Chunk}
use Rattle.dk_table.specs.declared.streaming.filling.Cut.{Cut}
use Rattle.dk_table.specs.declared.streaming.filling.Filled.{Filled}
use Rattle.dk_table.specs.declared.streaming.filling.Filled.TheVariants.{Full, Ended, Failed}
use Rattle.dk_table.specs.declared.streaming.filling.OpenFault.{OpenFault}
use Rattle.dk_table.specs.declared.streaming.filling.OpenFault.TheVariants as opening
use Rattle.dk_table.specs.declared.streaming.filling.Piece.{Piece}

-- ---- chunks
abbrev pub chunk_rows : ℕ → Chunk → List Placed
chunk_rows separator chunk = placed_from chunk.file (chunk.front + 1) (records (config_by separator) chunk.bytes)

abbrev pub held_rows : ℕ → List Chunk → List Placed
held_rows separator chunks = flat_map (chunk_rows separator) chunks

-- Whole rows of the text, and what stands behind them. At a file's end all of it is whole rows.
abbrev pub CutsOf : ℕ → List ℕ → Bool → Cut → Type 0
CutsOf separator text true cut = (cut.rows ≡ text) × (cut.rest ≡ [])
CutsOf separator text false cut = (text ≡ cut.rows ++ cut.rest) × EndsRow (config_by separator) cut.rows

-- ---- reading
-- Bytes were put behind the text: enough, or up to the file's end, or until a read failed.
abbrev pub FilledSays : Filled → List ℕ → Option (List ℕ) → Type 0 → Type 0
FilledSays Full text rest rose = 3 ≤ length text
FilledSays Ended text rest rose = IsAtEnd rest
FilledSays Failed text rest rose = rose

abbrev pub FillsSays : List ℕ → List ℕ → Option (List ℕ) → Option (List ℕ) → Type 0 → Filled → Type 0
FillsSays old new before after rose filled =
    (got : List ℕ) × (new ≡ old ++ got) × (before ≡ prepend_known got after) × FilledSays filled new after rose

-- Of a file of which this is told the text was gathered, behind the byte order mark, and this is left.
abbrev pub IsGathered : Filled → HeldFile → List ℕ → Option (List ℕ) → Type 0 → Type 0
IsGathered Full Untold text rest rose = ⊤
IsGathered Full Absent text rest rose = ⊥
IsGathered Full (Holds bytes) text rest rose = (left : List ℕ) × (rest ≡ Some left) × (strip_bom bytes ≡ text ++ left)
IsGathered Ended Untold text rest rose = ⊤
IsGathered Ended Absent text rest rose = ⊥
IsGathered Ended (Holds bytes) text rest rose = strip_bom bytes ≡ text
IsGathered Failed Untold text rest rose = rose
IsGathered Failed Absent text rest rose = ⊥
IsGathered Failed (Holds bytes) text rest rose = rose × ((left : List ℕ) × (strip_bom bytes ≡ text ++ left))

-- a read failed so early that a byte order mark may be cut off
abbrev pub may_cut_mark : Filled → ℕ → Bool
may_cut_mark Full count = false
may_cut_mark Ended count = false
may_cut_mark Failed count = nat_lt count 3

-- The text behind the byte order mark. Nothing is left where a mark may be cut off.
abbrev pub without_mark : Filled → List ℕ → List ℕ
without_mark filled text = if may_cut_mark filled (length text) then [] else strip_bom text

abbrev pub OpenSays : HeldFile → Option (List ℕ) → Type 0 → Result Piece OpenFault → Type 0
OpenSays held rest rose (Ok piece) = IsGathered piece.filled held piece.text rest rose
OpenSays held rest rose (Err opening.Start) = (held ≡ Absent) ⊎ rose
OpenSays held rest rose (Err opening.NoMemory) = ⊤
