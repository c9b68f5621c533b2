-- What is kept of the files that were read.
use Rattle.std.specs.Prelude.{◌≡◌, ◌≢◌, ◌<◌, ◌⊎◌, ◌+◌, ◌-◌, ◌++◌, ℕ, List, [], ◌∷◌, take, length, Option, Some, None, option_map, Result, Ok, Err}
use Rattle.dk_base.specs.declared.why.Why.{Why}
use Rattle.dk_base.specs.declared.why.Why.TheVariants.{BadState, DifferentState, JoinedState}
use Rattle.dk_io.specs.Outside.{HeldFile, Absent, Holds}
use Rattle.dk_merging.specs.declared.merging.MergeFault.{MergeFault}
use Rattle.dk_merging.specs.declared.merging.MergeFault.TheVariants as merge
use Rattle.dk_driver.specs.Files.{AreHeldFiles}
use Rattle.dk_driver.specs.Reads.{AtStart, Break, HasBroken, Within, held_file_at, rest_behind}
use Rattle.dk_driver.specs.declared.fault.FileFault.{FileFault}
use Rattle.dk_driver.specs.declared.fault.FileFault.TheVariants.{Refused, Start, Read, NoMemory}
use Rattle.dk_merging.specs.Loading.{text_of}
use Rattle.dk_state.specs.declared.loading.Loaded.{Loaded}
use Rattle.dk_merge.specs.Merged.{AreMergedTo, IsNoState, IsReason, IsRefusedBehind, IsStateBehind, bytes_in, whole_limit}
use Rattle.dk_merge.specs.Reading.{IsWhole, UnreadGives, refused_whole}
use Rattle.dk_merge.specs.Statuses.{AreClean, UnreadLeaves, helds_of}
use Rattle.dk_merge.specs.declared.gathered.Gathered.{Gathered}
use Rattle.dk_merge.specs.declared.gathered.Gathered.TheVariants.{State, Traces}
use Rattle.dk_merge.specs.declared.gathering.Gathering.{Gathering}
use Rattle.dk_merge.specs.declared.gathering.Untaken.{Untaken}
use Rattle.dk_merge_command_line.specs.declared.command.Command.{Command}

-- ---- one file more
-- the state file of what states say together, if there are any
abbrev pub state_of : Option Loaded → Option (List ℕ)
state_of states = option_map text_of states

-- how many blocks are taken in turn, of traces
abbrev pub turns_by : Gathered → Option ℕ
turns_by (State state) = None
turns_by (Traces n files) = Some n

-- it is that of files of these contents
abbrev pub HoldsAll : List (List ℕ) → Gathered → Type 0
HoldsAll contents (State states) = AreMergedTo contents (state_of states)
HoldsAll contents (Traces n files) = files ≡ contents

abbrev pub fault_of_merge : MergeFault → FileFault
fault_of_merge merge.BadFirst = refused_whole BadState
fault_of_merge merge.BadSecond = refused_whole BadState
fault_of_merge merge.Different = refused_whole DifferentState
fault_of_merge merge.Joined = refused_whole JoinedState
fault_of_merge merge.NoMemory = NoMemory

-- why there is no state behind one more file
abbrev pub FaultGives : Option (List ℕ) → List ℕ → FileFault → Type 0
FaultGives before file (Refused line why) = (line ≡ 0) × IsNoState before file why
FaultGives before file NoMemory = Unit {0}
FaultGives before file fault = ⊥

-- what states say together behind one more file, or the fault of that
abbrev pub StatesGive : Option Loaded → List ℕ → Result Loaded MergeFault → Type 0
StatesGive before file (Ok states) = IsStateBehind (state_of before) file (text_of states)
StatesGive before file (Err fault) = FaultGives (state_of before) file (fault_of_merge fault)

-- what is kept behind one more file, or why there is no state
abbrev pub TakesFile : Gathered → List ℕ → Result Gathered FileFault → Type 0
TakesFile (State before) file (Ok next) =
    (states : Loaded) × IsStateBehind (state_of before) file (text_of states) × (next ≡ State (Some states))
TakesFile (Traces n files) file (Ok next) = next ≡ Traces n (files ++ file ∷ [])
TakesFile (State before) file (Err fault) = FaultGives (state_of before) file fault
TakesFile (Traces n files) file (Err NoMemory) = Unit {0}
TakesFile (Traces n files) file (Err fault) = ⊥

-- A file was read whole and taken.
pub record HasTaken (old new : Gathering) (held : HeldFile) (rest : Option (List ℕ)) : Type 0 where
  pub text : List ℕ
  pub whole : IsWhole old.room held text rest
  pub taken : TakesFile old.gathered text (Ok new.gathered)
  pub room : new.room ≡ old.room - length text

-- It was not read, or not taken.
abbrev pub NotTaken : Gathering → HeldFile → Type 0 → Option (List ℕ) → Option (List ℕ) → FileFault → Type 0
NotTaken old held rose before rest fault =
    UnreadGives old.room held rose before rest fault
    ⊎ ((text : List ℕ) × IsWhole old.room held text rest × TakesFile old.gathered text (Err fault))

-- ---- all files
-- The files in front of this place were read and taken, whatever they hold.
pub record AreReadTo (command : Command) (file : List ℕ → HeldFile) (before rest : Option (List ℕ)) (g : Gathering) (place : ℕ)
    : Type 0 where
  pub turns : turns_by g.gathered ≡ command.turns
  pub there : (k : ℕ) → k < place → held_file_at (helds_of command file) k ≢ Absent
  pub clean : AreClean command file place
  pub holds : (contents : List (List ℕ)) → AreHeldFiles (take place (helds_of command file)) contents
      → HoldsAll contents g.gathered × (bytes_in contents + g.room ≡ whole_limit) × (rest ≡ rest_behind place before)

-- The file at this place is the first that is refused.
pub record IsRefusedAt (command : Command) (file : List ℕ → HeldFile) (place : ℕ) (why : Why) : Type 0 where
  pub reason : IsReason why
  pub there : (k : ℕ) → k < place + 1 → held_file_at (helds_of command file) k ≢ Absent
  pub clean : AreClean command file place
  pub first : (contents : List (List ℕ)) (own : List ℕ) → AreHeldFiles (take place (helds_of command file)) contents
      → held_file_at (helds_of command file) place ≡ Holds own → IsRefusedBehind command.turns contents own why

-- The file at this place could not be read.
pub record IsUnreadAt (by : Break) (command : Command) (file : List ℕ → HeldFile)
    (rose : Type 0) (before rest : Option (List ℕ)) (place : ℕ)
    : Type 0 where
  pub cause : HasBroken by (held_file_at (helds_of command file) place) rose
  pub there : (k : ℕ) → k < place → held_file_at (helds_of command file) k ≢ Absent
  pub clean : AreClean command file place
  pub left : (contents : List (List ℕ)) → AreHeldFiles (take place (helds_of command file)) contents
      → UnreadLeaves by place (held_file_at (helds_of command file) place) before rest contents

-- what a fault of the file at a place says
abbrev pub FaultAtGives : Command → (List ℕ → HeldFile) → Type 0 → Option (List ℕ) → Option (List ℕ) → ℕ → FileFault → Type 0
FaultAtGives command file rose before rest place (Refused line why) = (line ≡ 0) × IsRefusedAt command file place why
FaultAtGives command file rose before rest place Start = IsUnreadAt AtStart command file rose before rest place
FaultAtGives command file rose before rest place Read = IsUnreadAt Within command file rose before rest place
FaultAtGives command file rose before rest place NoMemory = Unit {0}

-- what reading all files comes to
abbrev pub FilesGive : Command → (List ℕ → HeldFile) → Type 0 → Option (List ℕ) → Option (List ℕ) → Result Gathering Untaken → Type 0
FilesGive command file rose before rest (Ok g) = AreReadTo command file before rest g (length command.files)
FilesGive command file rose before rest (Err u) =
    (u.place < length command.files) × FaultAtGives command file rose before rest u.place u.fault
