-- Chunks of a file.
use Rattle.std.specs.Prelude.{◌≡◌, ◌≤◌, ◌<◌, ◌+◌, ◌++◌, ℕ, List, true, false, get_or, length, take}
use Rattle.csv.specs.Machine.{ends_with, step}
use Rattle.csv.specs.Reading.{records}
use Rattle.csv.specs.declared.parser.Config.{Config}
use Rattle.csv.specs.declared.parser.State.{State}
use Rattle.csv.specs.declared.parser.State.TheVariants as st
use Rattle.csv.specs.declared.parser.Terminator.TheVariants as term
use Rattle.dk_table.specs.Tables.{config_by}
use Rattle.dk_table.specs.declared.streaming.chunks.Stand.{Stand}
use Rattle.dk_table.specs.declared.streaming.chunks.Stand.TheVariants as stand

-- These bytes are whole rows: whatever follows them, its rows come behind theirs.
abbrev pub EndsRow : Config → List ℕ → Type 0
EndsRow c front = (rest : List ℕ) → records c (front ++ rest) ≡ records c front ++ records c rest

-- so many bytes in front are whole rows, and no more are
pub record AreWholeRows (c : Config) (bytes : List ℕ) (count : ℕ) : Type 0 where
  pub within : count ≤ length bytes
  pub whole : EndsRow c (take count bytes)
  pub most : (k : ℕ) → count < k → k ≤ length bytes → ¬ EndsRow c (take k bytes)

-- The byte in front of this place ends a line, if one stands there, and none behind it does.
pub record IsBehindLines (bytes : List ℕ) (place : ℕ) : Type 0 where
  pub within : place ≤ length bytes
  pub ends : (k : ℕ) → place ≡ k + 1 → ends_with term.CRLF (get_or bytes k 0) ≡ true
  pub none : (k : ℕ) → place ≤ k → k < length bytes → ends_with term.CRLF (get_or bytes k 0) ≡ false

-- ---- where a reader of rows stands

-- Behind CR (13) a row begins as anywhere. There are no escapes and no comments.
abbrev pub stand_of : State → Stand
stand_of st.StartRecord = stand.Row
stand_of st.AfterCr = stand.Row
stand_of st.StartField = stand.Cell
stand_of st.InField = stand.InCell
stand_of st.InQuoted = stand.InQuotes
stand_of st.AfterQuote = stand.BehindQuote
stand_of st.InEscape = stand.InQuotes
stand_of st.InComment = stand.Row

abbrev pub state_of : Stand → State
state_of stand.Row = st.StartRecord
state_of stand.Cell = st.StartField
state_of stand.InCell = st.InField
state_of stand.InQuotes = st.InQuoted
state_of stand.BehindQuote = st.AfterQuote

-- behind a byte
abbrev pub stand_behind : ℕ → Stand → ℕ → Stand
stand_behind separator s byte = stand_of (step (config_by separator) (state_of s) byte).0
