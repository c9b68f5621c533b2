-- What each status of a run says.
pub mod Ends
use Rattle.std.specs.Prelude.{◌≡◌, ◌<◌, ◌⊎◌, [], ℕ, suc, List, Option, Some, None, Result, Ok, Err, length, unwrap_or}
use Rattle.dk_arguments.specs.declared.request.Request.{Request}
use Rattle.dk_arguments.specs.declared.request.Request.TheVariants.{Run, Help, Version}
use Rattle.dk_driver.specs.Files.{AreHeldFiles, file_name_at}
use Rattle.dk_driver.specs.Reads.{Break, HasBroken, held_file_at}
use Rattle.dk_events.specs.declared.ended.Ended.{Ended}
use Rattle.dk_events.specs.declared.ended.Ended.TheVariants.{Done, Refused, Usage, Read, Write, NoMemory}
use Rattle.dk_io.specs.Outside.{HeldFile, Rose}
use Rattle.dk_io.specs.declared.outside.Stream.TheVariants.{Report, Messages}
use Rattle.dk_program.specs.Messages.{unread_line}
use Rattle.dk_program.specs.Moments.{IsCalm, Outside}
use Rattle.dk_program.specs.Outputs.{FollowedByFront, Output, only_on}
use Rattle.dk_program.specs.Statuses.{GivesOutput, OutputIsWritten}
use Rattle.dk_write.specs.Texts.{Write as Block, trace_text}
use Rattle.dk_table.specs.Asked.{table_command}
use Rattle.dk_table.specs.Refusals.Messages.{refusal_line}
use Rattle.dk_table.specs.Streams.{Stream as Written, nothing, nothing_but, stream_at, stream_in}
use Rattle.dk_table.specs.Tables.Contents.{AreReadAs, IsFrontBy, Reached, helds_of}
use Rattle.dk_table.specs.Traces.{trace_at}
use Rattle.dk_table.specs.declared.faults.Refusal.{Refusal}
use Rattle.dk_table.specs.declared.words.TableArguments.{TableArguments}

-- ---- what files come to
-- the message of a refusal
abbrev pub refused_line : List (List ℕ) → Refusal → List ℕ
refused_line names r = refusal_line (file_name_at names r.file) r.row r.why

-- a text on Report, and one on Messages
abbrev pub told : List ℕ → List ℕ → Output
told report messages = record { report = report; messages = messages; state = [] }

-- the point's name
abbrev pub point_of : TableArguments → List ℕ
point_of a = unwrap_or a.command.point (file_name_at a.files 0)

-- a trace, or nothing but its refusal
abbrev pub judged_whole : Result (List Block) Refusal → Written
judged_whole (Ok blocks) = record { written = blocks; refusal = None }
judged_whole (Err refusal) = nothing_but refusal

-- What is written of files of these contents, and why no more is. Where kinds are found by so many rows, the others are written as they
-- come; else all rows are judged before anything is written.
abbrev pub written_by : Option ℕ → TableArguments → List (List ℕ) → Written
written_by (Some (suc n)) a contents = stream_at a.command (point_of a) (suc n) contents
written_by types a contents = judged_whole (trace_at a.command (point_of a) contents)

-- a status, and what is written
pub record Outcome : Type 0 where
  pub status : Ended
  pub output : Output

-- A trace goes to Report, and the message of the refusal behind it, where there is one, to Messages.
abbrev pub outcome_behind : List (List ℕ) → List ℕ → Option Refusal → Outcome
outcome_behind names report None = record { status = Done; output = told report [] }
outcome_behind names report (Some r) = record { status = Refused; output = told report (refused_line names r) }

abbrev pub outcome_by : List (List ℕ) → Written → Outcome
outcome_by names w = outcome_behind names (trace_text w.written) w.refusal

-- what files of these contents come to
unfoldable pub outcome_of : TableArguments → List (List ℕ) → Outcome
outcome_of a contents = outcome_by a.files (written_by a.command.types a contents)

-- What is written of what was reached of the files, and why no more is. Nothing is where all rows are judged before.
abbrev pub reached_by : Option ℕ → TableArguments → List (List ℕ) → List ℕ → Written
reached_by (Some (suc n)) a contents front = stream_in a.command (point_of a) (suc n) contents (Some front)
reached_by types a contents front = nothing

abbrev pub written_of : (a : TableArguments) → {helds : List HeldFile} → Reached a.command helds → Written
written_of a reached = reached_by a.command.types a reached.contents reached.front

-- ---- how a run ends
-- The files were read as these contents, and this is the status and the output that they come to.
pub record IsRead (a : TableArguments) (status : Ended) (before : Outside) (output : Output) : Type 0 where
  pub contents : List (List ℕ)
  pub read : AreReadAs (helds_of a.files before.file) contents
  pub status_is : status ≡ (outcome_of a contents).status
  pub output_is : output ≡ (outcome_of a contents).output

-- What was reached of the files is refused, whatever follows: this is what is written in front of the refusal, and its message.
pub record IsRefusedWithin (a : TableArguments) (before : Outside) (output : Output) : Type 0 where
  pub reached : Reached a.command (helds_of a.files before.file)
  pub refusal : Refusal
  pub refused : (written_of a reached).refusal ≡ Some refusal
  pub output_is : output ≡ told (trace_text (written_of a reached).written) (refused_line a.files refusal)

-- A file could not be read. What was reached in front of the fault isn't refused; what is written of it and the file's message are all that
-- the run says.
pub record IsUnread (a : TableArguments) (before after : Outside) (output : Output) : Type 0 where
  pub by : Break
  pub reached : Reached a.command (helds_of a.files before.file)
  pub named : length reached.contents < length a.files
  pub cause : HasBroken by (held_file_at (helds_of a.files before.file) (length reached.contents))
      (Rose before.read_faults after.read_faults)
  pub own : IsFrontBy by reached.front
  pub none : (written_of a reached).refusal ≡ None
  pub output_is : output ≡ told (trace_text (written_of a reached).written) (unread_line (file_name_at a.files (length reached.contents)))

-- A run that is asked for so comes to this status, and has this output, unless a write fails or memory runs out before.
abbrev pub ComesTo : Ended → Option (Request TableArguments) → Outside → Outside → Output → Type 0
ComesTo Done (Some (Run a)) before after output = IsRead a Done before output
ComesTo Refused (Some (Run a)) before after output = IsRead a Refused before output ⊎ IsRefusedWithin a before output
ComesTo Read (Some (Run a)) before after output = IsUnread a before after output
ComesTo Done (Some Help) before after output = output ≡ only_on Report table_command.help
ComesTo Done (Some Version) before after output = output ≡ only_on Report table_command.version
ComesTo Usage None before after output = output ≡ only_on Messages table_command.usage
ComesTo status request before after output = ⊥

-- ---- what each status says
-- A front of the output that the run comes to was written. Its message stands behind the whole of its trace.
pub record IsCutShort (request : Option (Request TableArguments)) (before after : Outside) : Type 0 where
  pub status : Ended
  pub output : Output
  pub comes : ComesTo status request before after output
  pub front : FollowedByFront before.written after.written output
  pub behind : (front.front.report ≡ output.report) ⊎ (front.front.messages ≡ [])

abbrev pub Says : Ended → Option (Request TableArguments) → Outside → Outside → Type 0
Says Write request before after = Rose before.write_faults after.write_faults × IsCutShort request before after
Says NoMemory request before after =
    (after.write_faults ≡ before.write_faults) × ((after.written ≡ before.written) ⊎ IsCutShort request before after)
Says status request before after = (output : Output) × ComesTo status request before after output × OutputIsWritten before after output

-- ---- completeness
-- Where no fault of the outside rises, a run over files that are held ends by what they come to, or memory runs out.
abbrev pub Completes : Option (Request TableArguments) → Outside → Outside → Ended → Type 0
Completes (Some (Run a)) before after result =
    IsCalm before after → (contents : List (List ℕ)) → AreHeldFiles (helds_of a.files before.file) contents
    → let outcome = outcome_of a contents in GivesOutput outcome.status (λ output. output ≡ outcome.output) result before after
Completes request before after result = Unit {0}
