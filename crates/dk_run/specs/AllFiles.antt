-- What reading all files of a run comes to.
use Rattle.std.specs.Prelude.{◌≡◌, ◌≤◌, ◌<◌, ℕ, List, length, Option, Result, Ok, Err}
use Rattle.dk_base.specs.declared.why.Why.{Why}
use Rattle.dk_io.specs.Outside.{HeldFile, Rose}
use Rattle.dk_lines.specs.Reading.{Reading, room_of}
use Rattle.dk_core.specs.declared.session.Session.{Session}
use Rattle.dk_command_line.specs.declared.command.Command.{Command}
use Rattle.dk_driver.specs.AllFiles.{AreReadTo as FilesAreReadTo, AreRefusedAt, AreShortTo, AreUnreadAt}
use Rattle.dk_driver.specs.Reads.{AtStart, Break, HasBroken, Within, held_file_at}
use Rattle.dk_run.specs.Commands.{file_names, generated_count, helds_of}
use Rattle.dk_run.specs.Starts.{Begins, BeginsLike}
use Rattle.dk_run.specs.WholeFile.{IsBehind, IsWritten, IsWrittenInPart}
use Rattle.dk_run.specs.declared.reading.Trouble.{Trouble}
use Rattle.dk_run.specs.declared.reading.Trouble.TheVariants as t
use Rattle.dk_run.specs.declared.reading.FilesTrouble.{FilesTrouble}
use Rattle.dk_run.specs.declared.reading.FilesTrouble.TheVariants.{Refused, Start, Read, Write, NoMemory}

-- The files in front of this place were read, whatever they hold, and this text was written for them.
abbrev pub AreReadTo : {F : Type 0} → Command → (List ℕ → HeldFile) → Option (List ℕ) → Option (List ℕ) → Session F → ℕ → ℕ → List ℕ
    → Type 0
AreReadTo command file before rest session room place text =
    FilesAreReadTo (BeginsLike command.resume file) command.ignore_missing_entry (helds_of command file) before rest
    (λ start. IsBehind command (Begins command.resume file start) session text) room (generated_count command) place

-- The files up to this place hold this fault as their first, and where the run begins with the start, the reports that were due are told.
pub record IsRefusedAt (command : Command) (file : List ℕ → HeldFile) (text : List ℕ) (place line : ℕ) (why : Why) : Type 0 where
  pub named : place < length (helds_of command file)
  pub at : AreRefusedAt (BeginsLike command.resume file) command.ignore_missing_entry (helds_of command file)
      (λ start. IsWritten command (Begins command.resume file start) text) place line why

-- The file at this place, a named one, could not be read. What was delivered holds no fault, and where the run begins with the start, the
-- reports that are due within it are told.
pub record IsUnreadAt (by : Break) (command : Command) (file : List ℕ → HeldFile) (before rest : Option (List ℕ)) (text : List ℕ)
    (place : ℕ) : Type 0 where
  pub behind : generated_count command ≤ place
  pub named : place < length (helds_of command file)
  pub at : AreUnreadAt by (BeginsLike command.resume file) command.ignore_missing_entry (helds_of command file) before rest
      (λ start. IsWritten command (Begins command.resume file start) text) (generated_count command) place

-- a front of the reports that are due is told, whatever files follow those in front of a place
abbrev pub IsShortTo : Command → (List ℕ → HeldFile) → List ℕ → Type 0
IsShortTo command file text =
    AreShortTo (BeginsLike command.resume file) command.ignore_missing_entry (helds_of command file)
    (λ start. IsWrittenInPart command (Begins command.resume file start) text)

-- what a trouble with the files says
abbrev pub FilesTroubleGives : Command → (List ℕ → HeldFile) → Option (List ℕ) → List ℕ → FilesTrouble → Option (List ℕ) → Type 0
FilesTroubleGives command file before text (Refused place line why) rest = IsRefusedAt command file text place line why
FilesTroubleGives command file before text (Start place) rest = IsUnreadAt AtStart command file before rest text place
FilesTroubleGives command file before text (Read place) rest = IsUnreadAt Within command file before rest text place
FilesTroubleGives command file before text Write rest = IsShortTo command file text
FilesTroubleGives command file before text NoMemory rest = IsShortTo command file text

-- what reading the files in front of a place comes to
abbrev pub FilesGive : {F : Type 0} → Command → (List ℕ → HeldFile) → Option (List ℕ) → ℕ → List ℕ → Result (Session F) FilesTrouble
    → Reading → Option (List ℕ) → Type 0
FilesGive command file before place text (Ok session) new rest =
    AreReadTo command file before rest session (room_of new) place text
FilesGive command file before place text (Err trouble) new rest = FilesTroubleGives command file before text trouble rest

-- why a file was not read to its end, whatever is told
abbrev pub HasBrokenAt : List HeldFile → Type 0 → FilesTrouble → Type 0
HasBrokenAt helds rose (Start place) = HasBroken AtStart (held_file_at helds place) rose
HasBrokenAt helds rose (Read place) = HasBroken Within (held_file_at helds place) rose
HasBrokenAt helds rose trouble = Unit {0}

abbrev pub IsCaused : {A : Type 0} → List HeldFile → Type 0 → Result A FilesTrouble → Type 0
IsCaused helds rose (Ok x) = Unit {0}
IsCaused helds rose (Err trouble) = HasBrokenAt helds rose trouble

-- it is no failed start and no failed read
abbrev pub AreNoBreak : {A : Type 0} → Result A FilesTrouble → Type 0
AreNoBreak (Err (Start place)) = ⊥
AreNoBreak (Err (Read place)) = ⊥
AreNoBreak result = Unit {0}

-- no write failed, unless that is the trouble
abbrev pub AreCalmUnless : ℕ → ℕ → FilesTrouble → Type 0
AreCalmUnless before after Write = Rose before after
AreCalmUnless before after trouble = after ≡ before

abbrev pub AreCalmBut : {A : Type 0} → ℕ → ℕ → Result A FilesTrouble → Type 0
AreCalmBut before after (Ok x) = after ≡ before
AreCalmBut before after (Err trouble) = AreCalmUnless before after trouble

-- a trouble with the file at this place
abbrev pub files_trouble : ℕ → Trouble → FilesTrouble
files_trouble place (t.Refused line why) = Refused place line why
files_trouble place t.Start = Start place
files_trouble place t.Read = Read place
files_trouble place t.Write = Write
files_trouble place t.NoMemory = NoMemory

-- what reading all files of a run comes to
abbrev pub RunGives : {F : Type 0} → Command → (List ℕ → HeldFile) → Option (List ℕ) → List ℕ → Result (Session F) FilesTrouble
    → Option (List ℕ) → Type 0
RunGives command file before text (Ok session) rest =
    (room : ℕ) × AreReadTo command file before rest session room (length (file_names command)) text
RunGives command file before text (Err trouble) rest = FilesTroubleGives command file before text trouble rest

-- the place of a trouble is that of one of n files
abbrev pub IsTroubleOf : ℕ → FilesTrouble → Type 0
IsTroubleOf n (Refused place line why) = place < n
IsTroubleOf n (Start place) = place < n
IsTroubleOf n (Read place) = place < n
IsTroubleOf n Write = Unit {0}
IsTroubleOf n NoMemory = Unit {0}
