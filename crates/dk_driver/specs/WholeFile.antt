-- What reading one file comes to.
use Rattle.std.specs.Prelude.{◌≡◌, ◌⊎◌, ◌-◌, ℕ, Bool, true, false, List, [], ◌++◌, length, Option, Some, Result, Ok, Err}
use Rattle.dk_base.specs.Reading.{LineFault}
use Rattle.dk_base.specs.declared.faults.Fault.{Fault}
use Rattle.dk_base.specs.declared.faults.Fault.TheVariants as fault
use Rattle.dk_blocks.specs.History.{History, file_ended}
use Rattle.dk_blocks.specs.LastLines.{LeavesBlank, ends_in_blank_line}
use Rattle.dk_blocks.specs.Steps.{groups_left}
use Rattle.dk_lines.specs.Reading.{Reading, room_of}
use Rattle.dk_driver.specs.Consuming.{Told}
use Rattle.dk_driver.specs.Standing.{StandsBehind}
use Rattle.dk_driver.specs.Trails.{Step, behind_steps, trail_behind}
use Rattle.dk_driver.specs.declared.fault.FileFault.{FileFault}
use Rattle.dk_driver.specs.declared.fault.FileFault.TheVariants.{Refused, Start, Read, NoMemory}
use Rattle.dk_driver.specs.declared.fault.FilesFault.{FilesFault}
use Rattle.dk_driver.specs.declared.fault.FilesFault.TheVariants as files
use Rattle.dk_driver.specs.declared.feed.Feed.{Feed}

-- Within a file: behind these steps, what the first history says of what was left is what the next one says of what is left now. So it is
-- of a file that is cut off, unless it is cut off behind its last line and no LF ends that; where this isn't the file's end, that line is
-- blank.
pub record Within (ignores : Bool) (place : ℕ) (history : History) (old : Reading) (xs : List ℕ) (found : List Step) (next : History)
    (is_over : Bool) (new : Reading) (ys : List ℕ) : Type 0 where
  pub front : List ℕ
  pub split : xs ≡ front ++ ys
  pub room : room_of new ≡ room_of old - length front
  pub nothing : is_over ≡ true → ys ≡ []
  pub last : LeavesBlank new ys → LeavesBlank old xs
  pub same : trail_behind ignores place history (groups_left false old true xs)
      ≡ behind_steps found (trail_behind ignores place next (groups_left is_over new true ys))
  pub cut : (d rest : List ℕ) → ys ≡ d ++ rest →
      (trail_behind ignores place history (groups_left false old false (front ++ d))
      ≡ behind_steps found (trail_behind ignores place next (groups_left is_over new false d)))
      ⊎ ((ys ≡ []) × (is_over ≡ false → LeavesBlank old xs))

-- What is kept stands for a history within the file, behind the steps up to it, of which these stood before the file.
pub record FileGoesOn (ignores : Bool) (place : ℕ) (history : History) (before : List Step) (old : Reading) (xs : List ℕ)
    (Stands : History → List Step → Type 0) (is_over : Bool) (new : Reading) (left : Option (List ℕ)) : Type 0 where
  pub found : List Step
  pub next : History
  pub stands : Stands next (before ++ found)
  pub ys : List ℕ
  pub left_is : left ≡ Some ys
  pub within : Within ignores place history old xs found next is_over new ys

-- the file's bytes xs up to its end come to a history and these steps
pub record ComesToEnd (ignores : Bool) (place : ℕ) (history : History) (before : List Step) (old : Reading) (xs : List ℕ)
    (Stands : History → List Step → Type 0) (new : Reading) (left : Option (List ℕ)) : Type 0 where
  pub found : List Step
  pub next : History
  pub stands : Stands (file_ended next) (before ++ found)
  pub nothing_left : left ≡ Some []
  pub room : room_of new ≡ room_of old - length xs
  pub all : trail_behind ignores place history (groups_left false old true xs) ≡ record { steps = found; end = Ok next }

-- The file's bytes xs hold this fault, and this was written for the steps in front of it.
pub record HasFault (ignores : Bool) (place : ℕ) (history : History) (before : List Step) (old : Reading) (xs : List ℕ)
    (Wrote : List Step → Type 0) (fault : LineFault) : Type 0 where
  pub found : List Step
  pub wrote : Wrote (before ++ found)
  pub all : trail_behind ignores place history (groups_left false old true xs) ≡ record { steps = found; end = Err fault }

-- Of the file's bytes xs a front without a fault was delivered, and this was written for the steps within it. Where it is all, and ends in
-- a blank line without LF, it may count as ended.
pub record IsBroken (ignores : Bool) (place : ℕ) (history : History) (before : List Step) (old : Reading) (xs : List ℕ)
    (Wrote : List Step → Type 0) (left : Option (List ℕ)) : Type 0 where
  pub front : List ℕ
  pub rest : List ℕ
  pub left_is : left ≡ Some rest
  pub split : xs ≡ front ++ rest
  pub is_ended : Bool
  pub ended : is_ended ≡ true → (rest ≡ []) × (ends_in_blank_line xs ≡ true)
  pub found : List Step
  pub wrote : Wrote (before ++ found)
  pub next : History
  pub all : trail_behind ignores place history (groups_left false old is_ended front) ≡ record { steps = found; end = Ok next }

-- This was written for some of the steps within the file's bytes xs, from the first on.
pub record IsShort (ignores : Bool) (place : ℕ) (history : History) (before : List Step) (old : Reading) (xs : List ℕ)
    (Wrote : List Step → Type 0) : Type 0 where
  pub found : List Step
  pub wrote : Wrote (before ++ found)
  pub more : List Step
  pub all : (trail_behind ignores place history (groups_left false old true xs)).steps ≡ found ++ more

-- a reader in front of the first line of a file
abbrev pub fresh_reading : Reading → Reading
fresh_reading r = record r { is_started = true; number = 0; ahead = []; line = [] }

-- What a fault of a block of the started file says, where the bytes xs are left, and this is written for steps.
abbrev pub BlockFaultGives : Bool → ℕ → History → List Step → Reading → List ℕ → (List Step → Type 0) → Fault → Option (List ℕ) → Type 0
BlockFaultGives ignores place history before old xs Wrote (fault.Refused file line why) left =
    HasFault ignores place history before old xs Wrote (record { line = line; why = why })
BlockFaultGives ignores place history before old xs Wrote (fault.Read file) left = IsBroken ignores place history before old xs Wrote left
BlockFaultGives ignores place history before old xs Wrote fault.NoMemory left = IsShort ignores place history before old xs Wrote

-- ---- without writing
abbrev pub nothing_written : List Step → Type 0
nothing_written steps = Unit {0}

-- what a fault of the started file says, where the bytes xs are left
abbrev pub FaultGives : Bool → ℕ → History → List Step → Reading → List ℕ → FileFault → Option (List ℕ) → Type 0
FaultGives ignores place history before old xs (Refused line why) left =
    HasFault ignores place history before old xs nothing_written (record { line = line; why = why })
FaultGives ignores place history before old xs Start left = ⊥
FaultGives ignores place history before old xs Read left = IsBroken ignores place history before old xs nothing_written left
FaultGives ignores place history before old xs NoMemory left = Unit {0}

-- what reading the started file to its end comes to
abbrev pub StartedGives : {C : Type 0} → (C → Told → Type 0) → Bool → ℕ → History → List Step → Reading → List ℕ
    → Result (Feed C) FileFault → Reading → Option (List ℕ) → Type 0
StartedGives Stands ignores place history before old xs (Ok s) new left =
    ComesToEnd ignores place history before old xs (StandsBehind Stands s) new left
StartedGives Stands ignores place history before old xs (Err fault) new left = FaultGives ignores place history before old xs fault left

-- what a fault of a file of the bytes xs says
abbrev pub FileFaultGives : Bool → ℕ → History → List Step → Reading → List ℕ → FileFault → Option (List ℕ) → Type 0
FileFaultGives ignores place history before old xs Start rest = Unit {0}
FileFaultGives ignores place history before old xs (Refused line why) rest =
    HasFault ignores place history before (fresh_reading old) xs nothing_written (record { line = line; why = why })
FileFaultGives ignores place history before old xs Read rest =
    IsBroken ignores place history before (fresh_reading old) xs nothing_written rest
FileFaultGives ignores place history before old xs NoMemory rest = Unit {0}

-- what reading a file of the bytes xs comes to
abbrev pub FileGives : {C : Type 0} → (C → Told → Type 0) → Bool → ℕ → History → List Step → Reading → List ℕ
    → Result (Feed C) FileFault → Reading → Option (List ℕ) → Type 0
FileGives Stands ignores place history before old xs (Ok s) new rest =
    ComesToEnd ignores place history before (fresh_reading old) xs (StandsBehind Stands s) new rest
FileGives Stands ignores place history before old xs (Err fault) new rest = FileFaultGives ignores place history before old xs fault rest

-- a block is not read
abbrev pub file_fault_of : Fault → FileFault
file_fault_of (fault.Refused file line why) = Refused line why
file_fault_of (fault.Read file) = Read
file_fault_of fault.NoMemory = NoMemory

-- a fault, of the file at this place
abbrev pub fault_at : ℕ → FileFault → FilesFault
fault_at place (Refused line why) = files.Refused place line why
fault_at place Start = files.Start place
fault_at place Read = files.Read place
fault_at place NoMemory = files.NoMemory
