-- What reading the state file of a run comes to, before all else.
use Rattle.std.specs.Prelude.{◌≡◌, ◌≢◌, ◌≤◌, ◌⊎◌, ◌-◌, ℕ, false, List, [], length, Option, Some, None, unwrap_or}
use Rattle.dk_base.specs.declared.why.Why.{Why}
use Rattle.dk_base.specs.declared.why.Why.TheVariants.{BadState, TooLong}
use Rattle.dk_io.specs.Outside.{HeldFile, Absent, Holds}
use Rattle.dk_io.specs.declared.whole.AllFault.{AllFault}
use Rattle.dk_io.specs.declared.whole.AllFault.TheVariants as all
use Rattle.dk_state.specs.declared.loading.LoadFault.{LoadFault}
use Rattle.dk_state.specs.declared.loading.LoadFault.TheVariants as load
use Rattle.dk_state.specs.Spelling.{IsSpelling}
use Rattle.dk_blocks.specs.History.{History}
use Rattle.dk_core.specs.Resuming.{HasTableOfState, IsStart, state_file}
use Rattle.dk_core.specs.Standing.{SessionReadsFor, SessionStandsFor, blocks_of, over_of}
use Rattle.dk_command_line.specs.declared.command.Command.{Command}
use Rattle.dk_driver.specs.Reads.{AtStart, HasBroken, Within}
use Rattle.dk_program.specs.Moments.{Outside}
use Rattle.dk_run.specs.Courses.{Outset, total_limit}
use Rattle.dk_run.specs.Starts.{Begins, BeginsLike, HasBegun, IsRefusedAs, rest_begun}
use Rattle.dk_run.specs.Statuses.{StateUnreadGives}
use Rattle.dk_run.specs.Telling.{ReportsBy}
use Rattle.dk_run.specs.WholeFile.{GoesOnFrom}
use Rattle.dk_core.specs.declared.session.Session.{Session}
use Rattle.dk_run.specs.declared.starting.Beginning.{Beginning}
use Rattle.dk_driver.specs.declared.fault.FileFault.{FileFault}
use Rattle.dk_driver.specs.declared.fault.FileFault.TheVariants.{Refused, Start as Unstarted, Read, NoMemory}

-- the name of the state file, and an empty one where the run names none
abbrev pub state_name : Command → List ℕ
state_name command = unwrap_or command.resume []

-- The session goes on from a start, and this is the room for its files.
pub record BeginsFrom {F : Type 0} (command : Command) (file : List ℕ → HeldFile)
    (session : Session F) (room : ℕ) (start : Outset) : Type 0 where
  pub from : GoesOnFrom (Begins command.resume file start) session start.history
  pub room_is : room ≡ start.room

-- The session goes on from what the run begins with, and no block was read.
pub record IsBegun {F : Type 0} (command : Command) (file : List ℕ → HeldFile) (beginning : Beginning F) : Type 0 where
  pub begun : HasBegun command.resume file
  pub starts : (start : Outset) → BeginsLike command.resume file start → BeginsFrom command file beginning.session beginning.room start
  pub room : beginning.room ≤ total_limit
  pub counts : blocks_of beginning.session ≡ 0
  pub over : over_of beginning.session ≡ false
  pub reports : ReportsBy command beginning.session

-- The state file is refused for this reason.
abbrev pub IsRefusedState : HeldFile → Why → Type 0
IsRefusedState held why =
    (held ≢ Absent) × ((why ≡ TooLong) ⊎ (why ≡ BadState)) × ((xs : List ℕ) → held ≡ Holds xs → IsRefusedAs why xs)

-- What a fault of a state file says, of which this is told.
abbrev pub StateFaultGives : HeldFile → Type 0 → Option (List ℕ) → Option (List ℕ) → FileFault → Type 0
StateFaultGives held rose before rest (Refused line why) = (line ≡ 0) × IsRefusedState held why
StateFaultGives held rose before rest Unstarted = HasBroken AtStart held rose × StateUnreadGives AtStart held before rest
StateFaultGives held rose before rest Read = HasBroken Within held rose × StateUnreadGives Within held before rest
StateFaultGives held rose before rest NoMemory = Unit {0}

-- Without a state file only memory can be wanting.
abbrev pub StartFaultGives : Option (List ℕ) → (List ℕ → HeldFile) → Type 0 → Option (List ℕ) → Option (List ℕ) → FileFault → Type 0
StartFaultGives None file rose before rest fault = fault ≡ NoMemory
StartFaultGives (Some name) file rose before rest fault = StateFaultGives (file name) rose before rest fault

-- What is left of the inputs when the run has begun.
abbrev pub IsLeft : Option (List ℕ) → (List ℕ → HeldFile) → Option (List ℕ) → Option (List ℕ) → Type 0
IsLeft resume file before rest = (start : Outset) → BeginsLike resume file start → rest ≡ rest_begun resume before

-- The outside at a moment when the run has begun, and before all else.
pub record HasCome {F : Type 0} (command : Command) (before now : Outside) (beginning : Beginning F) : Type 0 where
  pub file : now.file ≡ before.file
  pub begun : IsBegun command before.file beginning
  pub left : IsLeft command.resume before.file before.rest now.rest
  pub later : before.read_faults ≤ now.read_faults
  pub calm : now.write_faults ≡ before.write_faults

-- ---- reading the state file
-- It was read whole.
pub record IsWhole (held : HeldFile) (text : List ℕ) (rest : Option (List ℕ)) : Type 0 where
  pub there : held ≢ Absent
  pub short : length text ≤ total_limit
  pub all : (xs : List ℕ) → held ≡ Holds xs → (text ≡ xs) × (rest ≡ Some [])

-- The session is that of this state file.
pub record IsResumed {F : Type 0} (command : Command) (state : List ℕ) (beginning : Beginning F) : Type 0 where
  pub spelling : IsSpelling state
  pub stands : (h : History) → IsStart h → state_file h ≡ state → SessionStandsFor beginning.session h
  pub reads : (h : History) → HasTableOfState state h → SessionReadsFor beginning.session h
  pub room : beginning.room ≡ total_limit - length state
  pub counts : blocks_of beginning.session ≡ 0
  pub over : over_of beginning.session ≡ false
  pub reports : ReportsBy command beginning.session

-- why there is none
abbrev pub IsUnloaded : List ℕ → FileFault → Type 0
IsUnloaded state (Refused line why) = (line ≡ 0) × (why ≡ BadState) × (IsSpelling state → ⊥)
IsUnloaded state Unstarted = ⊥
IsUnloaded state Read = ⊥
IsUnloaded state NoMemory = Unit {0}

-- the fault of a state file that is refused as a whole
abbrev pub refused_whole : Why → FileFault
refused_whole why = Refused 0 why

abbrev pub fault_of_read : AllFault → FileFault
fault_of_read all.Read = Read
fault_of_read all.TooLong = refused_whole TooLong
fault_of_read all.NoMemory = NoMemory

abbrev pub fault_of_load : LoadFault → FileFault
fault_of_load load.BadState = refused_whole BadState
fault_of_load load.NoMemory = NoMemory
