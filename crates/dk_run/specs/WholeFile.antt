-- What reading one file comes to: what the session was fed, and beside it what was written.
use Rattle.std.specs.Prelude.{◌≡◌, ◌++◌, ℕ, false, List, [], length, Option, Some, Result, Ok, Err}
use Rattle.std.specs.Io.{StartsWith}
use Rattle.dk_base.specs.declared.faults.Fault.{Fault}
use Rattle.dk_base.specs.declared.faults.Fault.TheVariants as fault
use Rattle.dk_io.specs.Outside.{HeldFile, Rose}
use Rattle.dk_lines.specs.Reading.{Reading}
use Rattle.dk_blocks.specs.History.{History}
use Rattle.dk_core.specs.Standing.{SessionReadsFor, SessionStandsFor, blocks_of}
use Rattle.dk_core.specs.declared.session.Session.{Session}
use Rattle.dk_command_line.specs.declared.command.Command.{Command}
use Rattle.dk_driver.specs.Trails.{Outset, Step}
use Rattle.dk_driver.specs.WholeFile.{ComesToEnd, HasFault, IsBroken, IsShort}
pub use Rattle.dk_driver.specs.WholeFile.{fresh_reading}
use Rattle.dk_presence.specs.Patterns.{capped}
use Rattle.dk_run.specs.Courses.{histories_of}
use Rattle.dk_run.specs.Reports.{due_reports}
use Rattle.dk_run.specs.Starts.{Begins}
use Rattle.dk_program.specs.declared.reporting.Halt.{Halt}
use Rattle.dk_program.specs.declared.reporting.Halt.TheVariants as halt
use Rattle.dk_run.specs.declared.reading.Trouble.{Trouble}
use Rattle.dk_run.specs.declared.reading.Trouble.TheVariants.{Refused, Start, Read, Write, NoMemory}

-- A session goes on from a history: its reader stands for it, and where the session Stood for the one in front, all of it does.
pub record GoesOnFrom {F : Type 0} (Stood : Type 0) (session : Session F) (history : History) : Type 0 where
  pub reads : SessionReadsFor session history
  pub stands : Stood → SessionStandsFor session history

-- The session was fed these steps of a run, which may have begun so: it goes on from the history behind them, and has counted them.
pub record IsFed {F : Type 0} (Begun : Type 0) (session : Session F) (history : History) (steps : List Step) : Type 0 where
  pub goes : GoesOnFrom Begun session history
  pub counts : blocks_of session ≡ capped (length steps)

-- Where the run has begun so, this text is the reports that are due within these steps.
abbrev pub IsWritten : Command → Type 0 → List ℕ → List Step → Type 0
IsWritten command Begun text steps = Begun → text ≡ due_reports command (histories_of steps)

-- it is a front of them
abbrev pub IsWrittenInPart : Command → Type 0 → List ℕ → List Step → Type 0
IsWrittenInPart command Begun text steps = Begun → StartsWith (due_reports command (histories_of steps)) text

-- The session was fed these steps, and this text is what was written for them.
pub record IsBehind {F : Type 0} (command : Command) (Begun : Type 0) (session : Session F) (text : List ℕ) (history : History)
    (steps : List Step) : Type 0 where
  pub fed : IsFed Begun session history steps
  pub written : IsWritten command Begun text steps

-- a reader that could not start a file
abbrev pub unstarted_reading : Reading → Reading
unstarted_reading r = record r { is_started = false; number = 0; ahead = []; line = [] }

-- What a trouble with the started file at this place says, where the bytes xs are left behind these steps, and the text is all that was
-- written since the first of them.
abbrev pub TroubleGives : Command → Type 0 → ℕ → History → List Step → Reading → List ℕ → List ℕ → Trouble → Option (List ℕ) → Type 0
TroubleGives command Begun place history before old xs text (Refused line why) left =
    HasFault command.ignore_missing_entry place history before old xs (IsWritten command Begun text) (record { line = line; why = why })
TroubleGives command Begun place history before old xs text Start left = ⊥
TroubleGives command Begun place history before old xs text Read left =
    IsBroken command.ignore_missing_entry place history before old xs (IsWritten command Begun text) left
TroubleGives command Begun place history before old xs text Write left =
    IsShort command.ignore_missing_entry place history before old xs (IsWrittenInPart command Begun text)
TroubleGives command Begun place history before old xs text NoMemory left =
    IsShort command.ignore_missing_entry place history before old xs (IsWrittenInPart command Begun text)

-- what reading the started file to its end comes to
abbrev pub StartedGives : {F : Type 0} → Command → Type 0 → ℕ → History → List Step → Reading → List ℕ → List ℕ → Result (Session F) Trouble
    → Reading → Option (List ℕ) → Type 0
StartedGives command Begun place history before old xs text (Ok session) new left =
    ComesToEnd command.ignore_missing_entry place history before old xs (IsBehind command Begun session text) new left
StartedGives command Begun place history before old xs text (Err trouble) new left =
    TroubleGives command Begun place history before old xs text trouble left

-- What a trouble with a file of the bytes xs says, where it was started.
abbrev pub FileTroubleGives : Command → Type 0 → ℕ → History → List Step → Reading → List ℕ → List ℕ → Trouble → Option (List ℕ) → Type 0
FileTroubleGives command Begun place history before old xs text Start rest = Unit {0}
FileTroubleGives command Begun place history before old xs text trouble rest =
    TroubleGives command Begun place history before (fresh_reading old) xs text trouble rest

-- what reading a file of the bytes xs comes to
abbrev pub FileGives : {F : Type 0} → Command → Type 0 → ℕ → History → List Step → Reading → List ℕ → List ℕ → Result (Session F) Trouble
    → Reading → Option (List ℕ) → Type 0
FileGives command Begun place history before old xs text (Ok session) new rest =
    ComesToEnd command.ignore_missing_entry place history before (fresh_reading old) xs (IsBehind command Begun session text) new rest
FileGives command Begun place history before old xs text (Err trouble) new rest =
    FileTroubleGives command Begun place history before old xs text trouble rest

-- what reading the generated file comes to; each start and each read of it succeeds
abbrev pub TextGives : {F : Type 0} → Command → Type 0 → History → List Step → Reading → List ℕ → List ℕ → Result (Session F) Trouble
    → Reading → Type 0
TextGives command Begun history before old xs text (Ok session) new =
    ComesToEnd command.ignore_missing_entry 0 history before (fresh_reading old) xs (IsBehind command Begun session text) new (Some [])
TextGives command Begun history before old xs text (Err (Refused line why)) new =
    HasFault command.ignore_missing_entry 0 history before (fresh_reading old) xs (IsWritten command Begun text)
    (record { line = line; why = why })
TextGives command Begun history before old xs text (Err Start) new = Unit {0}
TextGives command Begun history before old xs text (Err Read) new = Unit {0}
TextGives command Begun history before old xs text (Err Write) new =
    IsShort command.ignore_missing_entry 0 history before (fresh_reading old) xs (IsWrittenInPart command Begun text)
TextGives command Begun history before old xs text (Err NoMemory) new =
    IsShort command.ignore_missing_entry 0 history before (fresh_reading old) xs (IsWrittenInPart command Begun text)

-- What is said of a file holds of a session behind steps of any run with this command, behind which this text was written.
abbrev pub Behind : {F : Type 0} → Command → Session F → List ℕ → (Type 0 → List ℕ → History → List Step → Type 0) → Type 0
Behind command session text Says =
    (file : List ℕ → HeldFile) (start : Outset) (told : List ℕ) (h : History) (steps : List Step)
    → IsBehind command (Begins command.resume file start) session told h steps
    → Says (Begins command.resume file start) (told ++ text) h steps

-- it is no failed start and no failed read
abbrev pub IsNoBreak : {A : Type 0} → Result A Trouble → Type 0
IsNoBreak (Err Start) = ⊥
IsNoBreak (Err Read) = ⊥
IsNoBreak result = Unit {0}

-- no write failed, unless that is the trouble
abbrev pub IsCalmUnless : ℕ → ℕ → Trouble → Type 0
IsCalmUnless before after Write = Rose before after
IsCalmUnless before after trouble = after ≡ before

abbrev pub IsCalmBut : {A : Type 0} → ℕ → ℕ → Result A Trouble → Type 0
IsCalmBut before after (Ok x) = after ≡ before
IsCalmBut before after (Err trouble) = IsCalmUnless before after trouble

-- a report by the way is not written whole
abbrev pub trouble_of_halt : Halt → Trouble
trouble_of_halt halt.Write = Write
trouble_of_halt halt.NoMemory = NoMemory

-- a block is not read
abbrev pub trouble_of_fault : Fault → Trouble
trouble_of_fault (fault.Refused file line why) = Refused line why
trouble_of_fault (fault.Read file) = Read
trouble_of_fault fault.NoMemory = NoMemory
