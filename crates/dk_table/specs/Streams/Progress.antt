-- Rows that are written as they come: what is known behind each file.
use Rattle.std.specs.Prelude.{◌≡◌, ◌<◌, ◌+◌, ◌++◌, ◌∷◌, [], ◌⊎◌, ⊤, ℕ, List, Option, Some, None, Result, Ok, Err, length, take}
use Rattle.dk_driver.specs.Reads.{AtStart, Break, HasBroken, Within, held_file_at}
use Rattle.dk_io.specs.Outside.{HeldFile, Rose}
use Rattle.dk_io.specs.Streams.{AddsFront, Texts, with_bytes}
use Rattle.dk_io.specs.declared.outside.Stream.TheVariants.{Report}
use Rattle.dk_write.specs.Texts.{trace_text}
use Rattle.dk_table.specs.Tables.Chunks.{EndsRow}
use Rattle.dk_table.specs.Tables.Contents.{AreReadAs, IsFrontBy, Reached, helds_of}
use Rattle.dk_table.specs.Streams.Pieces.{IsGathered}
use Rattle.dk_table.specs.Tables.PlacedRows.{Placed}
use Rattle.dk_table.specs.Streams.Stages.{IsAt}
use Rattle.dk_table.specs.Streams.Stops.{Writes}
use Rattle.dk_table.specs.Streams.{Stream, all_steps, rows_steps, rows_stream, stream_at, stream_in, text_rows}
use Rattle.dk_table.specs.Tables.{are_paired, config_by, rows_in}
use Rattle.dk_table.specs.declared.words.command.Command.{Command}
use Rattle.dk_table.specs.declared.streaming.filling.OpenFault.{OpenFault}
use Rattle.dk_table.specs.declared.streaming.filling.OpenFault.TheVariants as opening
use Rattle.dk_table.specs.declared.streaming.stages.Stage.{Stage}
use Rattle.dk_table.specs.declared.streaming.stops.Stop.{Stop}
use Rattle.dk_table.specs.declared.streaming.stops.Stop.TheVariants.{NoMemory, Refused, Unread, Unstarted, Write}
use Rattle.dk_table.specs.declared.streaming.Going.{Going}
use Rattle.dk_table.specs.declared.streaming.advancing.Place.{Place}

-- ---- what a file adds
-- the rows of all files, headers among them, the first of which has this place
abbrev pub all_rows : ℕ → ℕ → List (List ℕ) → List Placed
all_rows separator file [] = []
all_rows separator file (bytes ∷ more) = rows_in separator file bytes ++ all_rows separator (file + 1) more

-- the first file has a row
abbrev pub HasFirst : ℕ → List (List ℕ) → Type 0
HasFirst separator [] = ⊤
HasFirst separator (bytes ∷ more) = 0 < length (rows_in separator 0 bytes)

-- Each file could end as it does, and the first has a row.
pub record AreWhole (c : Command) (contents : List (List ℕ)) : Type 0 where
  pub steps : (names : List (List ℕ)) → all_steps c names 0 contents ≡ rows_steps c.has_header names (all_rows c.separator 0 contents)
  pub first : HasFirst c.separator contents

-- What was gone through of a file behind others, and what is known there.
pub record IsWithin (c : Command) (point : List ℕ) (types : ℕ) (contents : List (List ℕ)) (gone : List ℕ) (place : Place) : Type 0 where
  pub whole : EndsRow (config_by c.separator) gone
  pub at : IsAt c point types place.stage (all_rows c.separator 0 contents ++ text_rows c.separator (length contents) gone)
  pub count : place.count ≡ length (text_rows c.separator (length contents) gone)
  pub paired : place.is_paired ≡ are_paired gone

-- the stream of what was reached
abbrev pub reached_stream : (c : Command) → List ℕ → ℕ → {helds : List HeldFile} → Reached c helds → Stream
reached_stream c point types reached = stream_in c point types reached.contents (Some reached.front)

-- The file behind those that were read can't be read. What was reached has no refusal, and was written.
pub record IsStopped (c : Command) (point : List ℕ) (types : ℕ)
    (names : List (List ℕ)) (file : List ℕ → HeldFile) (rose : Type 0) (by : Break)
    (base new : Texts) (start after place : ℕ) : Type 0 where
  pub reached : Reached c (helds_of names file)
  pub here : place ≡ length reached.contents
  pub named : place < length names
  pub cause : HasBroken by (held_file_at (helds_of names file) place) rose
  pub own : IsFrontBy by reached.front
  pub none : (reached_stream c point types reached).refusal ≡ None
  pub written : new ≡ with_bytes base Report (trace_text (reached_stream c point types reached).written)
  pub calm : after ≡ start

-- a fault of the file at a place that can't be started
abbrev pub unopened : ℕ → OpenFault → Stop
unopened place opening.Start = Unstarted place
unopened place opening.NoMemory = NoMemory

-- What a stop says: what was reached, and what was written of it.
abbrev pub StopSays : Command → List ℕ → ℕ → List (List ℕ) → (List ℕ → HeldFile) → Type 0 → Texts → Texts → ℕ → ℕ → Stop → Type 0
StopSays c point types names file rose base new start after (Refused r) =
    (reached : Reached c (helds_of names file)) × ((reached_stream c point types reached).refusal ≡ Some r)
    × (new ≡ with_bytes base Report (trace_text (reached_stream c point types reached).written)) × (after ≡ start)
StopSays c point types names file rose base new start after (Unstarted place) =
    IsStopped c point types names file rose AtStart base new start after place
StopSays c point types names file rose base new start after (Unread place) =
    IsStopped c point types names file rose Within base new start after place
StopSays c point types names file rose base new start after Write =
    (reached : Reached c (helds_of names file))
    × AddsFront base new Report (trace_text (reached_stream c point types reached).written) × Rose start after
StopSays c point types names file rose base new start after NoMemory =
    (reached : Reached c (helds_of names file))
    × AddsFront base new Report (trace_text (reached_stream c point types reached).written) × (after ≡ start)

-- The files in front were read, and what they come to was written.
pub record AreBehind (c : Command) (point : List ℕ) (types : ℕ) (names : List (List ℕ))
    (file : List ℕ → HeldFile) (place : ℕ) (contents : List (List ℕ))
    (stage : Stage) (base new : Texts) (start after : ℕ) : Type 0 where
  pub many : length contents ≡ place
  pub read : AreReadAs (take (length contents) (helds_of names file)) contents
  pub whole : AreWhole c contents
  pub none : (rows_stream c point types (all_rows c.separator 0 contents)).refusal ≡ None
  pub at : IsAt c point types stage (all_rows c.separator 0 contents)
  pub written : new ≡ with_bytes base Report (trace_text (rows_stream c point types (all_rows c.separator 0 contents)).written)
  pub calm : after ≡ start

-- The file behind them is gone through: so much is gone, and so much is gathered behind it.
pub record IsGoing (c : Command) (point : List ℕ) (types : ℕ) (names : List (List ℕ))
    (file : List ℕ → HeldFile) (rose : Type 0) (place : ℕ) (contents : List (List ℕ))
    (going : Going) (rest : Option (List ℕ)) (base new : Texts) (start after : ℕ) : Type 0 where
  pub gone : List ℕ
  pub many : length contents ≡ place
  pub named : length contents < length names
  pub read : AreReadAs (take (length contents) (helds_of names file)) contents
  pub complete : AreWhole c contents
  pub within : IsWithin c point types contents gone going.place
  pub none : (rows_stream c point types (all_rows c.separator 0 contents ++ text_rows c.separator (length contents) gone)).refusal ≡ None
  pub gathered : IsGathered going.filled (held_file_at (helds_of names file) (length contents)) (gone ++ going.text) rest rose
  pub written : new
      ≡ with_bytes base Report (trace_text (rows_stream c point types (all_rows c.separator 0 contents
      ++ text_rows c.separator (length contents) gone)).written)
  pub calm : after ≡ start

abbrev pub PieceGoes : Command → List ℕ → ℕ → List (List ℕ) → (List ℕ → HeldFile) → Type 0
    → ℕ → List (List ℕ) → Option (List ℕ) → Texts → Texts → ℕ → ℕ → Result Going Stop → Type 0
PieceGoes c point types names file rose place contents rest base new start after (Ok going) =
    IsGoing c point types names file rose place contents going rest base new start after
PieceGoes c point types names file rose place contents rest base new start after (Err stop) =
    StopSays c point types names file rose base new start after stop

-- Behind such files this one was read as well, or the run stops.
abbrev pub FileGoes : Command → List ℕ → ℕ → List (List ℕ) → (List ℕ → HeldFile)
    → Type 0 → ℕ → List (List ℕ) → Texts → Texts → ℕ → ℕ → Result Stage Stop → Type 0
FileGoes c point types names file rose place contents base new start after (Ok stage) =
    (bytes : List ℕ) × AreBehind c point types names file (place + 1) (contents ++ bytes ∷ []) stage base new start after
FileGoes c point types names file rose place contents base new start after (Err stop) =
    StopSays c point types names file rose base new start after stop

-- All files were read, and what they come to was written, or a front of it.
abbrev pub EndedSays : Command → List ℕ → ℕ → List (List ℕ) → (List ℕ → HeldFile) → Texts → Texts → ℕ → ℕ → Result (Unit {0}) Stop → Type 0
EndedSays c point types names file old new before after result =
    (contents : List (List ℕ)) × AreReadAs (helds_of names file) contents
    × (let stream = stream_at c point types contents in Writes (trace_text stream.written) stream.refusal old new before after result)

abbrev pub StreamSays : Command → List ℕ → ℕ → List (List ℕ) → (List ℕ → HeldFile)
    → Type 0 → Texts → Texts → ℕ → ℕ → Result (Unit {0}) Stop → Type 0
StreamSays c point types names file rose old new before after (Ok u) = EndedSays c point types names file old new before after (Ok u)
StreamSays c point types names file rose old new before after (Err stop) =
    StopSays c point types names file rose old new before after stop ⊎ EndedSays c point types names file old new before after (Err stop)
