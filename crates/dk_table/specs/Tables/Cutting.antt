-- Rows of bytes without quotes, which are lines.
use Rattle.std.specs.Prelude.{◌≡◌, ◌≢◌, ◌<◌, [], ℕ, List, Some, drop, false, get_or, length}
use Rattle.csv.specs.Machine.{ends_at_end, next_record}
use Rattle.csv.specs.declared.parser.State.{State}
use Rattle.csv.specs.declared.parser.State.TheVariants as st
use Rattle.dk_table.specs.Tables.{config_by}

-- none of the bytes is a quote (34)
abbrev pub IsUnquoted : List ℕ → Type 0
IsUnquoted bytes = (k : ℕ) → k < length bytes → get_or bytes k 0 ≢ 34

-- At this place behind the start of a row these cells are read, and the next row begins at the next place.
pub record IsCut (separator : ℕ) (bytes : List ℕ) (place : ℕ) (cells : List (List ℕ)) (next : ℕ) : Type 0 where
  pub state : State
  pub read : next_record (config_by separator) st.StartField [] [] (drop place bytes) ≡ Some (cells, state, drop next bytes)
  pub between : ends_at_end state ≡ false
