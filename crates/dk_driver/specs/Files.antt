-- Files as lists of bytes, and what is told of them.
use Rattle.std.specs.Prelude.{◌≡◌, ℕ, Bool, true, List, [], map, slice_get, unwrap_or}
use Rattle.dk_base.specs.declared.why.Why.{Why}
use Rattle.dk_io.specs.Outside.{HeldFile, Holds}

-- A file, or what was delivered of one: it is ended, or reading it failed before its end.
pub record File : Type 0 where
  pub bytes : List ℕ
  pub is_ended : Bool

-- a file that is ended
abbrev pub ended_file : List ℕ → File
ended_file xs = record { bytes = xs; is_ended = true }

-- a fault by its file's place among the files, counted from 0
pub record FaultAt : Type 0 where
  pub file : ℕ
  pub line : ℕ
  pub why : Why

-- the files of which this is told hold these contents
abbrev pub AreHeldFiles : List HeldFile → List (List ℕ) → Type 0
AreHeldFiles helds contents = helds ≡ map Holds contents

-- the name at a place, counted from 0
abbrev pub file_name_at : List (List ℕ) → ℕ → List ℕ
file_name_at names place = unwrap_or (slice_get names place) []
