-- What each status of a run says.
use Rattle.std.specs.Prelude.{◌≡◌, ◌≢◌, ◌≤◌, ◌<◌, ◌⊎◌, ◌+◌, ◌-◌, ℕ, Bool, false, List, [], ◌∷◌, ◌++◌, map, take, length, All, Option, Some, None}
use Rattle.std.specs.Io.{StartsWith}
use Rattle.dk_base.specs.declared.why.Why.{Why}
use Rattle.dk_base.specs.declared.why.Why.TheVariants.{BadState, TooLong}
use Rattle.dk_io.specs.Outside.{DeliversUpTo, HeldFile, Absent, Holds, Rose}
use Rattle.dk_io.specs.declared.outside.Stream.TheVariants as stream
use Rattle.dk_command_line.specs.Texts.{help_text, version_text}
use Rattle.dk_command_line.specs.declared.command.Command.{Command}
use Rattle.dk_arguments.specs.declared.request.Request.{Request}
use Rattle.dk_arguments.specs.declared.request.Request.TheVariants.{Run, Help, Version}
use Rattle.dk_driver.specs.Files.{AreHeldFiles, FaultAt, File, ended_file, file_name_at}
use Rattle.dk_program.specs.Messages.{fault_line, unread_line}
use Rattle.dk_driver.specs.Reads.{AtStart, Break, HasBroken, IsDelivered, Within, held_file_at, rest_behind}
use Rattle.dk_program.specs.Moments.{IsCalm, Outside}
use Rattle.dk_program.specs.Outputs.{FollowedByFront, IsFront, Output, only_on, texts_followed_by}
use Rattle.dk_run.specs.Commands.{file_names, generated_count, helds_of}
use Rattle.dk_run.specs.Courses.{Outset, course_of, first_fault, total_limit}
use Rattle.dk_run.specs.Starts.{Begins, BeginsLike, HasBegun, IsRefusedAs, rest_begun}
use Rattle.dk_run.specs.Outputs.{first_line, output_of, unread_output, usage_output}
use Rattle.dk_run.specs.Reports.{due_reports}
use Rattle.dk_events.specs.declared.ended.Ended.{Ended}
use Rattle.dk_events.specs.declared.ended.Ended.TheVariants.{Done, Refused, Usage, Read, Write, NoMemory}

-- Behind this start, as far as the first n files are held, from the first on, they hold no fault.
abbrev pub AreCleanBehind : Outset → Bool → List HeldFile → ℕ → Type 0
AreCleanBehind start ignores helds n =
    (k : ℕ) (contents : List (List ℕ)) → k ≤ n → AreHeldFiles (take k helds) contents
    → first_fault start ignores (map ended_file contents) ≡ None

-- So it is behind all that the run begins with, as far as reading goes.
abbrev pub AreClean : Command → (List ℕ → HeldFile) → ℕ → Type 0
AreClean command file n =
    (start : Outset) → BeginsLike command.resume file start → AreCleanBehind start command.ignore_missing_entry (helds_of command file) n

-- ---- how a run ends
-- A state file that is named was read whole, and is one. All files were started and read to their ends, and they hold no fault.
pub record AreRead (command : Command) (before after : Outside) : Type 0 where
  pub begun : HasBegun command.resume before.file
  pub none_absent : All (λ held. held ≢ Absent) (helds_of command before.file)
  pub clean : AreClean command before.file (length (helds_of command before.file))
  pub all_read : (start : Outset) → BeginsLike command.resume before.file start → (contents : List (List ℕ))
      → AreHeldFiles (helds_of command before.file) contents
      → after.rest ≡ rest_behind (length command.files) (rest_begun command.resume before.rest)

-- This is the output then, behind each history that the run begins with.
pub record IsDone (command : Command) (before after : Outside) (output : Output) : Type 0 where
  pub read : AreRead command before after
  pub messages : output.messages ≡ first_line command
  pub unsaved : command.save ≡ false → output.state ≡ []
  pub defined : (start : Outset) → Begins command.resume before.file start → (contents : List (List ℕ))
      → AreHeldFiles (helds_of command before.file) contents
      → output ≡ output_of start command (map ended_file contents)

-- The state file is refused, at its line 0. That is all that the run says.
pub record IsStateRefused (command : Command) (before : Outside) (output : Output) : Type 0 where
  pub name : List ℕ
  pub named : command.resume ≡ Some name
  pub there : before.file name ≢ Absent
  pub why : Why
  pub of_state : (why ≡ TooLong) ⊎ (why ≡ BadState)
  pub fault : (xs : List ℕ) → before.file name ≡ Holds xs → IsRefusedAs why xs
  pub message : output ≡ only_on stream.Messages (fault_line name 0 why)

-- The files up to this fault's hold it as their first, and the messages of the output end with the fault's line. Behind each history that
-- the run begins with the output is that of the run over these files.
pub record IsRefused (command : Command) (before after : Outside) (output : Output) : Type 0 where
  pub begun : HasBegun command.resume before.file
  pub fault : FaultAt
  pub named : fault.file < length (file_names command)
  pub none_absent : All (λ held. held ≢ Absent) (take (fault.file + 1) (helds_of command before.file))
  pub messages : output.messages ≡ first_line command ++ fault_line (file_name_at (file_names command) fault.file) fault.line fault.why
  pub no_state : output.state ≡ []
  pub clean_before : AreClean command before.file fault.file
  pub first : (start : Outset) → BeginsLike command.resume before.file start → (contents : List (List ℕ))
      → AreHeldFiles (take (fault.file + 1) (helds_of command before.file)) contents
      → first_fault start command.ignore_missing_entry (map ended_file contents) ≡ Some fault
  pub defined : (start : Outset) → Begins command.resume before.file start → (contents : List (List ℕ))
      → AreHeldFiles (take (fault.file + 1) (helds_of command before.file)) contents
      → output ≡ output_of start command (map ended_file contents)

-- What was read of a state file that could not be read to its end: nothing, or as many bytes as all files of a run may have, at most.
abbrev pub StateUnreadGives : Break → HeldFile → Option (List ℕ) → Option (List ℕ) → Type 0
StateUnreadGives AtStart held before after = after ≡ before
StateUnreadGives Within held before after = (xs : List ℕ) → held ≡ Holds xs → DeliversUpTo total_limit (Some xs) after

-- The state file could not be read: its start failed, or a read. That is all that the run says.
pub record IsStateUnread (command : Command) (before after : Outside) (output : Output) : Type 0 where
  pub name : List ℕ
  pub named : command.resume ≡ Some name
  pub by : Break
  pub cause : HasBroken by (before.file name) (Rose before.read_faults after.read_faults)
  pub left : StateUnreadGives by (before.file name) before.rest after.rest
  pub message : output ≡ only_on stream.Messages (unread_line name)

-- What a run says that ends since a file can't be read, behind files of these contents. A start that fails leaves what is left of the
-- inputs as it was, and delivers nothing of the file. What was delivered holds no fault. The output is that of the run over the same, where
-- it begins with this start.
abbrev pub UnreadGives : Break → Outset → Command → ℕ → HeldFile → Outside → Outside → Output → List (List ℕ) → Type 0
UnreadGives AtStart start command place held before after output contents =
    (after.rest ≡ rest_behind (place - generated_count command) (rest_begun command.resume before.rest))
    × (Begins command.resume before.file start
    → output ≡ unread_output start command (map ended_file contents) (file_name_at (file_names command) place))
UnreadGives Within start command place held before after output contents = (xs : List ℕ) → held ≡ Holds xs →
    (delivered : File) × IsDelivered xs after.rest delivered
    × (first_fault start command.ignore_missing_entry (map ended_file contents ++ delivered ∷ []) ≡ None)
    × (Begins command.resume before.file start
    → output ≡ unread_output start command (map ended_file contents ++ delivered ∷ []) (file_name_at (file_names command) place))

-- The file at this place, one that the words name, could not be read: its start failed, or a read. None in front of it is absent, and
-- behind each history that the run begins with the report has what is due within what was delivered.
pub record IsUnread (command : Command) (before after : Outside) (output : Output) : Type 0 where
  pub begun : HasBegun command.resume before.file
  pub place : ℕ
  pub named : place < length (file_names command)
  pub by_the_words : generated_count command ≤ place
  pub by : Break
  pub cause : HasBroken by (held_file_at (helds_of command before.file) place) (Rose before.read_faults after.read_faults)
  pub none_absent : All (λ held. held ≢ Absent) (take place (helds_of command before.file))
  pub messages : output.messages ≡ first_line command ++ unread_line (file_name_at (file_names command) place)
  pub no_state : output.state ≡ []
  pub clean_before : AreClean command before.file place
  pub defined : (start : Outset) → BeginsLike command.resume before.file start → (contents : List (List ℕ))
      → AreHeldFiles (take place (helds_of command before.file)) contents →
      UnreadGives by start command place (held_file_at (helds_of command before.file) place) before after output contents

-- A run that is asked for so comes to this status, and has this output, unless a write fails or memory runs out before.
abbrev pub ComesTo : Ended → Option (Request Command) → Outside → Outside → Output → Type 0
ComesTo Done (Some (Run command)) before after output = IsDone command before after output
ComesTo Done (Some Help) before after output = output ≡ only_on stream.Report help_text
ComesTo Done (Some Version) before after output = output ≡ only_on stream.Report version_text
ComesTo Refused (Some (Run command)) before after output = IsStateRefused command before output ⊎ IsRefused command before after output
ComesTo Read (Some (Run command)) before after output = IsStateUnread command before after output ⊎ IsUnread command before after output
ComesTo Usage None before after output = output ≡ usage_output
ComesTo status request before after output = ⊥

-- ---- runs that are cut short
-- While the files up to a place are read, behind the state file: the report got a front of the reports that are due, whatever files follow,
-- and the messages a front of the first line.
pub record IsCutWithin (command : Command) (before after : Outside) : Type 0 where
  pub begun : HasBegun command.resume before.file
  pub front : Output
  pub written : after.written ≡ texts_followed_by before.written front
  pub messages : StartsWith (first_line command) front.messages
  pub no_state : front.state ≡ []
  pub place : ℕ
  pub none_absent : All (λ held. held ≢ Absent) (take place (helds_of command before.file))
  pub due : (start : Outset) → Begins command.resume before.file start → (contents : List (List ℕ))
      → AreHeldFiles (take place (helds_of command before.file)) contents → (files : List File) →
      StartsWith (due_reports command (course_of start command.ignore_missing_entry (map ended_file contents ++ files)).after) front.report

-- While the last report or the state is written: each stream got a front of its text.
pub record IsCutAtEnd (command : Command) (before after : Outside) : Type 0 where
  pub front : Output
  pub written : after.written ≡ texts_followed_by before.written front
  pub read : AreRead command before after
  pub messages : front.messages ≡ first_line command
  pub unsaved : command.save ≡ false → front.state ≡ []
  pub due : (start : Outset) → Begins command.resume before.file start → (contents : List (List ℕ))
      → AreHeldFiles (helds_of command before.file) contents
      → IsFront front (output_of start command (map ended_file contents))

abbrev pub IsCutInRun : Option (Request Command) → Outside → Outside → Type 0
IsCutInRun (Some (Run command)) before after = IsCutWithin command before after ⊎ IsCutAtEnd command before after
IsCutInRun request before after = ⊥

-- Each stream got a front of its text: nothing; or as far as a run came; or a front of the output that the run comes to.
abbrev pub IsCutShort : Option (Request Command) → Outside → Outside → Type 0
IsCutShort request before after =
    (after.written ≡ before.written)
    ⊎ IsCutInRun request before after
    ⊎ ((status : Ended) × (output : Output) × ComesTo status request before after output
    × FollowedByFront before.written after.written output)

-- ---- what each status says
-- All of the output was written, and no write failed.
abbrev pub OutputIsWritten : Outside → Outside → Output → Type 0
OutputIsWritten before after output = (after.written ≡ texts_followed_by before.written output) × (after.write_faults ≡ before.write_faults)

abbrev pub Says : Ended → Option (Request Command) → Outside → Outside → Type 0
Says Write request before after = Rose before.write_faults after.write_faults × IsCutShort request before after
Says NoMemory request before after = (after.write_faults ≡ before.write_faults) × IsCutShort request before after
Says status request before after = (output : Output) × ComesTo status request before after output × OutputIsWritten before after output

-- ---- completeness
-- the run has this status and this output, or memory ran out
abbrev pub GivesOutput : Ended → Output → Ended → Outside → Outside → Type 0
GivesOutput status output result before after =
    ((result ≡ status) × (after.written ≡ texts_followed_by before.written output)) ⊎ (result ≡ NoMemory)

-- The output has the messages of the run over these files behind a start, as far as reading goes; where the run begins with the start, it
-- is the output of that run.
pub record HasMessagesOf (command : Command) (before : Outside) (start : Outset) (files : List File) (output : Output) : Type 0 where
  pub messages : output.messages ≡ (output_of start command files).messages
  pub whole : Begins command.resume before.file start → output ≡ output_of start command files

-- the run has this status, and such an output over the files, or memory ran out
abbrev pub CompletesAs : Ended → Command → Outset → List File → Ended → Outside → Outside → Type 0
CompletesAs status command start files result before after =
    ((result ≡ status)
    × ((output : Output) × HasMessagesOf command before start files output × (after.written ≡ texts_followed_by before.written output)))
    ⊎ (result ≡ NoMemory)

-- Where no fault of the outside rises, a run over files that are held comes to its end. Files behind a faulty one need not be there,
-- behind a state file that is refused, too.
pub record IsComplete (command : Command) (before after : Outside) (result : Ended) : Type 0 where
  pub done : (start : Outset) → BeginsLike command.resume before.file start → (contents : List (List ℕ))
      → AreHeldFiles (helds_of command before.file) contents
      → first_fault start command.ignore_missing_entry (map ended_file contents) ≡ None
      → CompletesAs Done command start (map ended_file contents) result before after
  pub refused : (start : Outset) → BeginsLike command.resume before.file start → (n : ℕ) (contents : List (List ℕ)) (fault : FaultAt)
      → AreHeldFiles (take n (helds_of command before.file)) contents
      → first_fault start command.ignore_missing_entry (map ended_file contents) ≡ Some fault
      → CompletesAs Refused command start (map ended_file contents) result before after
  pub state_refused : (name xs : List ℕ) (why : Why) → command.resume ≡ Some name → before.file name ≡ Holds xs → IsRefusedAs why xs
      → GivesOutput Refused (only_on stream.Messages (fault_line name 0 why)) result before after

-- The run is complete, where one is asked for.
abbrev pub CompletesCalmly : Option (Request Command) → Outside → Outside → Ended → Type 0
CompletesCalmly (Some (Run command)) before after result = IsCalm before after → IsComplete command before after result
CompletesCalmly request before after result = Unit {0}
