-- What each status of a run says.
use Rattle.std.specs.Prelude.{◌≡◌, ◌≢◌, ◌≤◌, ◌<◌, ◌⊎◌, ◌+◌, ◌-◌, ℕ, List, [], map, take, length, All, Option, Some, None}
use Rattle.dk_base.specs.declared.why.Why.{Why}
use Rattle.dk_events.specs.declared.ended.Ended.{Ended}
use Rattle.dk_events.specs.declared.ended.Ended.TheVariants.{Done, Refused, Read, NoMemory}
use Rattle.dk_io.specs.Outside.{DeliversUpTo, HeldFile, Absent, Holds, Rose}
use Rattle.dk_io.specs.declared.outside.Stream.TheVariants as stream
use Rattle.dk_arguments.specs.declared.request.Request.{Request}
use Rattle.dk_arguments.specs.declared.request.Request.TheVariants.{Run}
use Rattle.dk_driver.specs.Files.{AreHeldFiles, FaultAt, file_name_at}
use Rattle.dk_driver.specs.Reads.{AtStart, Break, HasBroken, Within, held_file_at, rest_behind}
use Rattle.dk_program.specs.Messages.{fault_line, unread_line}
use Rattle.dk_program.specs.Moments.{IsCalm, Outside}
use Rattle.dk_program.specs.Outputs.{Output, only_on, texts_followed_by}
use Rattle.dk_program.specs.Statuses.{Coming, Completes, GivesOutput, ComesTo as ProgramComesTo, IsCutShort as IsCutBefore, StatusSaysBy}
use Rattle.dk_turns.specs.Turns.{turns_of}
use Rattle.dk_merge.specs.Merged.{AreTaken, IsReason, IsRefusedBehind, bytes_in, whole_limit}
use Rattle.dk_merge.specs.Outputs.{IsDoneFront, IsDoneOutput, IsRefusedInTurns, IsRefusedOutput, turns_fault, turns_name, turns_output}
use Rattle.dk_merge_command_line.specs.Requests.{dk_merge}
use Rattle.dk_merge_command_line.specs.declared.command.Command.{Command}

-- ---- what was read
-- what is told of the files that the words name, in order
abbrev pub helds_of : Command → (List ℕ → HeldFile) → List HeldFile
helds_of command file = map file command.files

-- As far as the first n files are held, from the first on, none of them is refused.
abbrev pub AreClean : Command → (List ℕ → HeldFile) → ℕ → Type 0
AreClean command file n =
    (k : ℕ) (contents : List (List ℕ)) → k ≤ n → AreHeldFiles (take k (helds_of command file)) contents → AreTaken command.turns contents

-- ---- how a run ends
-- All files were started and read to their ends, and none is refused.
pub record AreRead (command : Command) (before after : Outside) : Type 0 where
  pub none_absent : All (λ held. held ≢ Absent) (helds_of command before.file)
  pub clean : AreClean command before.file (length command.files)
  pub all_read : (contents : List (List ℕ)) → AreHeldFiles (helds_of command before.file) contents
      → after.rest ≡ rest_behind (length command.files) before.rest

-- This is the output then.
pub record IsDone (command : Command) (before after : Outside) (output : Output) : Type 0 where
  pub read : AreRead command before after
  pub messages : output.messages ≡ []
  pub defined : (contents : List (List ℕ)) → AreHeldFiles (helds_of command before.file) contents
      → IsDoneOutput command.turns command.least contents output

-- The files up to this one are there, and it is the first that is refused, at its line 0. That is all that the run says.
pub record IsRefused (command : Command) (before : Outside) (output : Output) : Type 0 where
  pub place : ℕ
  pub named : place < length command.files
  pub why : Why
  pub reason : IsReason why
  pub none_absent : All (λ held. held ≢ Absent) (take (place + 1) (helds_of command before.file))
  pub clean_before : AreClean command before.file place
  pub first : (contents : List (List ℕ)) (file : List ℕ) → AreHeldFiles (take place (helds_of command before.file)) contents
      → held_file_at (helds_of command before.file) place ≡ Holds file → IsRefusedBehind command.turns contents file why
  pub message : output ≡ only_on stream.Messages (fault_line (file_name_at command.files place) 0 why)

-- All files were read, and a line of the one file that they are in turns is refused. That is all that the run says.
pub record IsRefusedLater (command : Command) (before after : Outside) (output : Output) : Type 0 where
  pub n : ℕ
  pub turns : command.turns ≡ Some n
  pub read : AreRead command before after
  pub fault : FaultAt
  pub first : (contents : List (List ℕ)) → AreHeldFiles (helds_of command before.file) contents
      → turns_fault (turns_of n contents) ≡ Some fault
  pub message : output ≡ only_on stream.Messages (fault_line turns_name fault.line fault.why)
  pub defined : (contents : List (List ℕ)) → AreHeldFiles (helds_of command before.file) contents
      → output ≡ turns_output command.least (turns_of n contents)

-- What is left of the inputs where a file can't be read, behind files of these contents. A start that fails delivers nothing of it, and no
-- byte that was delivered is one too many.
abbrev pub UnreadLeaves : Break → ℕ → HeldFile → Option (List ℕ) → Option (List ℕ) → List (List ℕ) → Type 0
UnreadLeaves AtStart place held before after contents = after ≡ rest_behind place before
UnreadLeaves Within place held before after contents =
    (xs : List ℕ) → held ≡ Holds xs → DeliversUpTo (whole_limit - bytes_in contents) (Some xs) after

-- The file at this place could not be read: its start failed, or a read. None in front of it is absent or refused, and that it can't be
-- read is all that the run says.
pub record IsUnread (command : Command) (before after : Outside) (output : Output) : Type 0 where
  pub place : ℕ
  pub named : place < length command.files
  pub by : Break
  pub cause : HasBroken by (held_file_at (helds_of command before.file) place) (Rose before.read_faults after.read_faults)
  pub none_absent : All (λ held. held ≢ Absent) (take place (helds_of command before.file))
  pub clean_before : AreClean command before.file place
  pub left : (contents : List (List ℕ)) → AreHeldFiles (take place (helds_of command before.file)) contents
      → UnreadLeaves by place (held_file_at (helds_of command before.file) place) before.rest after.rest contents
  pub message : output ≡ only_on stream.Messages (unread_line (file_name_at command.files place))

-- A run with this command comes to this status and has this output, unless a write fails or memory runs out before.
abbrev pub RunComesTo : Command → Coming
RunComesTo command Done before after output = IsDone command before after output
RunComesTo command Refused before after output = IsRefused command before output ⊎ IsRefusedLater command before after output
RunComesTo command Read before after output = IsUnread command before after output
RunComesTo command status before after output = ⊥

-- So it is where this is asked for: a run, or help, or the version, or nothing.
abbrev pub ComesTo : Option (Request Command) → Coming
ComesTo request = ProgramComesTo RunComesTo dk_merge request

-- ---- runs that are cut short
-- All files were read, and a front of what follows was written; of states no message does.
pub record IsCutAtEnd (command : Command) (before after : Outside) : Type 0 where
  pub read : AreRead command before after
  pub front : Output
  pub written : after.written ≡ texts_followed_by before.written front
  pub messages : command.turns ≡ None → front.messages ≡ []
  pub of_output : (contents : List (List ℕ)) → AreHeldFiles (helds_of command before.file) contents
      → IsDoneFront command.turns command.least contents front

abbrev pub IsCutInRun : Option (Request Command) → Outside → Outside → Type 0
IsCutInRun (Some (Run command)) before after = IsCutAtEnd command before after
IsCutInRun request before after = ⊥

-- Each stream got nothing, or a front of the output that the run comes to; or a front of what follows when all files were read.
abbrev pub IsCutShort : Option (Request Command) → Outside → Outside → Type 0
IsCutShort request before after = IsCutBefore (ComesTo request) before after ⊎ IsCutInRun request before after

-- ---- what each status says
abbrev pub Says : Ended → Option (Request Command) → Outside → Outside → Type 0
Says status request before after = StatusSaysBy (ComesTo request) (IsCutShort request) status before after

-- ---- completeness
-- the run has this status and such an output
abbrev pub EndsAs : Ended → (Output → Type 0) → Ended → Outside → Outside → Type 0
EndsAs status Is result before after =
    (result ≡ status) × ((output : Output) × Is output × (after.written ≡ texts_followed_by before.written output))

-- Where no fault of the outside rises, a run over files that are held comes to its end, or memory runs out. Files behind a refused one need
-- not be there: it is enough that the first n files are held, and that not all of them can be taken.
pub record IsComplete (command : Command) (before after : Outside) (result : Ended) : Type 0 where
  pub whole : (contents : List (List ℕ)) → AreHeldFiles (helds_of command before.file) contents
      → EndsAs Done (IsDoneOutput command.turns command.least contents) result before after
      ⊎ EndsAs Refused (IsRefusedOutput command contents) result before after
      ⊎ EndsAs Refused (IsRefusedInTurns command contents) result before after
      ⊎ (result ≡ NoMemory)
  pub refused : (n : ℕ) (contents : List (List ℕ)) → AreHeldFiles (take n (helds_of command before.file)) contents
      → (AreTaken command.turns contents → ⊥)
      → GivesOutput Refused (IsRefusedOutput command contents) result before after

abbrev pub IsCalmlyComplete : Command → Outside → Outside → Ended → Type 0
IsCalmlyComplete command before after result = IsCalm before after → IsComplete command before after result

-- The run is complete, where one is asked for.
abbrev pub CompletesCalmly : Option (Request Command) → Outside → Outside → Ended → Type 0
CompletesCalmly request before after result = Completes IsCalmlyComplete request before after result
