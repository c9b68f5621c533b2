-- How a run ends, by how its rows are read.
use Rattle.std.specs.Prelude.{◌≡◌, ◌<◌, ⊤, ℕ, zero, suc, List, Option, Some, None, Result, Ok, Err}
use Rattle.dk_driver.specs.Files.{file_name_at}
use Rattle.dk_events.specs.declared.ended.Ended.{Ended}
use Rattle.dk_events.specs.declared.ended.Ended.TheVariants as ended
use Rattle.dk_io.specs.Streams.{Texts}
use Rattle.dk_io.specs.declared.outside.Stream.{Stream}
use Rattle.dk_io.specs.declared.outside.Stream.TheVariants.{Report, Messages}
use Rattle.dk_program.specs.Ending.{EndsWith}
use Rattle.dk_program.specs.Messages.{unread_line}
use Rattle.dk_write.specs.Texts.{Write as Block, trace_text}
use Rattle.dk_table.specs.Statuses.{point_of, refused_line}
use Rattle.dk_table.specs.Traces.{trace_at}
use Rattle.dk_table.specs.declared.faults.Refusal.{Refusal}
use Rattle.dk_table.specs.declared.streaming.stops.Stop.{Stop}
use Rattle.dk_table.specs.declared.streaming.stops.Stop.TheVariants.{NoMemory, Refused, Unread, Unstarted, Write}
use Rattle.dk_table.specs.declared.words.TableArguments.{TableArguments}

-- ---- where all rows are judged before anything is written
abbrev pub IsHeld : Option ℕ → Type 0
IsHeld None = ⊤
IsHeld (Some zero) = ⊤
IsHeld (Some (suc n)) = ⊥

-- a status, and the one text that is written
pub record Answer : Type 0 where
  pub status : Ended
  pub stream : Stream
  pub text : List ℕ

abbrev pub answer_by : List (List ℕ) → Result (List Block) Refusal → Answer
answer_by names (Ok blocks) = record { status = ended.Done; stream = Report; text = trace_text blocks }
answer_by names (Err r) = record { status = ended.Refused; stream = Messages; text = refused_line names r }

unfoldable pub answer_of : TableArguments → List (List ℕ) → Answer
answer_of a contents = answer_by a.files (trace_at a.command (point_of a) contents)

-- ---- where rows are written as they come
-- the file of which the stop tells is one of so many
abbrev pub IsOfFile : ℕ → Result (Unit {0}) Stop → Type 0
IsOfFile count (Err (Unstarted place)) = place < count
IsOfFile count (Err (Unread place)) = place < count
IsOfFile count told = ⊤

-- Behind what was written the run ends with a message where it stopped at a row or a file, and else with nothing more.
abbrev pub StopEnds : List (List ℕ) → Result (Unit {0}) Stop → Texts → Texts → ℕ → ℕ → Ended → Type 0
StopEnds names (Ok u) old new before after result = (result ≡ ended.Done) × (new ≡ old) × (after ≡ before)
StopEnds names (Err (Refused r)) old new before after result =
    EndsWith ended.Refused Messages (refused_line names r) old new before after result
StopEnds names (Err (Unstarted place)) old new before after result =
    EndsWith ended.Read Messages (unread_line (file_name_at names place)) old new before after result
StopEnds names (Err (Unread place)) old new before after result =
    EndsWith ended.Read Messages (unread_line (file_name_at names place)) old new before after result
StopEnds names (Err Write) old new before after result = (result ≡ ended.Write) × (new ≡ old) × (after ≡ before)
StopEnds names (Err NoMemory) old new before after result = (result ≡ ended.NoMemory) × (new ≡ old) × (after ≡ before)
