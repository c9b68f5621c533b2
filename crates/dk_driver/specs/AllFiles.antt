-- What reading files one after another comes to, between two of them.
use Rattle.std.specs.Prelude.{◌≡◌, ◌≢◌, ◌≤◌, ◌<◌, ◌+◌, ◌-◌, ℕ, Bool, List, [], ◌∷◌, ◌++◌, map, take, length, Option, None, Result, Ok, Err}
use Rattle.dk_base.specs.declared.why.Why.{Why}
use Rattle.dk_blocks.specs.History.{History}
use Rattle.dk_io.specs.Outside.{HeldFile, Absent, Holds}
use Rattle.dk_lines.specs.Reading.{Reading, room_of}
use Rattle.dk_driver.specs.Consuming.{Told}
use Rattle.dk_driver.specs.Files.{AreHeldFiles, File, ended_file}
use Rattle.dk_driver.specs.Reads.{AtStart, Break, FaultSays, IsDelivered, Within, held_file_at, helds_of, rest_behind}
use Rattle.dk_driver.specs.Standing.{StandsBehind}
use Rattle.dk_driver.specs.Trails.{Outset, Step, behind_steps, fault_in, trail_of, trail_of_files}
use Rattle.dk_driver.specs.Walks.{fresh_start}
use Rattle.dk_driver.specs.declared.fault.FilesFault.{FilesFault}
use Rattle.dk_driver.specs.declared.feed.Feed.{Feed}
use Rattle.dk_driver.specs.declared.traces.Traces.{Traces}

-- The files in front of this place were read, which hold these contents, all but the first of them from the inputs: the trail through them
-- and any others, behind this start, goes on from here.
pub record GoesOn (start : Outset) (ignores : Bool) (before rest : Option (List ℕ)) (Stands : History → List Step → Type 0)
    (room first place : ℕ) (contents : List (List ℕ)) : Type 0 where
  pub history : History
  pub steps : List Step
  pub stands : Stands history steps
  pub rest_is : rest ≡ rest_behind (place - first) before
  pub goes : (files : List File)
      → trail_of start ignores (map ended_file contents ++ files) ≡ behind_steps steps (trail_of_files ignores room history place files)

-- Behind this start, as far as the first n files are held, from the first on, they hold no fault.
abbrev pub IsCleanTo : Outset → Bool → List HeldFile → ℕ → Type 0
IsCleanTo start ignores helds n =
    (k : ℕ) (contents : List (List ℕ)) → k ≤ n → AreHeldFiles (take k helds) contents
    → fault_in (trail_of start ignores (map ended_file contents)).end ≡ None

-- The files in front of this place were read, whatever they hold, behind each start that the run Begins with.
pub record AreReadTo (Begins : Outset → Type 0) (ignores : Bool) (helds : List HeldFile) (before rest : Option (List ℕ))
    (Stands : Outset → History → List Step → Type 0) (room first place : ℕ) : Type 0 where
  pub there : (k : ℕ) → k < place → held_file_at helds k ≢ Absent
  pub clean : (start : Outset) → Begins start → IsCleanTo start ignores helds place
  pub runs : (start : Outset) → Begins start → (contents : List (List ℕ)) → AreHeldFiles (take place helds) contents
      → GoesOn start ignores before rest (Stands start) room first place contents

-- The files up to this place hold this fault as their first, and this was written for the steps in front of it.
pub record AreRefusedAt (Begins : Outset → Type 0) (ignores : Bool) (helds : List HeldFile) (Wrote : Outset → List Step → Type 0)
    (place line : ℕ) (why : Why) : Type 0 where
  pub there : (k : ℕ) → k < place + 1 → held_file_at helds k ≢ Absent
  pub clean : (start : Outset) → Begins start → IsCleanTo start ignores helds place
  pub first : (start : Outset) → Begins start → (contents : List (List ℕ)) → AreHeldFiles (take (place + 1) helds) contents →
      (steps : List Step) × Wrote start steps × (trail_of start ignores (map ended_file contents)
      ≡ record { steps = steps; end = Err (record { file = place; line = line; why = why }) })

-- What was read where a file can't be read, behind files of these contents, and written for the steps within it.
abbrev pub BreakLeaves : Break → Outset → Bool → HeldFile → Option (List ℕ) → Option (List ℕ) → (List Step → Type 0) → ℕ → ℕ
    → List (List ℕ) → Type 0
BreakLeaves AtStart start ignores held before rest Wrote first place contents =
    (rest ≡ rest_behind (place - first) before) × Wrote (trail_of start ignores (map ended_file contents)).steps
BreakLeaves Within start ignores held before rest Wrote first place contents = (xs : List ℕ) → held ≡ Holds xs →
    (delivered : File) × IsDelivered xs rest delivered
    × (fault_in (trail_of start ignores (map ended_file contents ++ delivered ∷ [])).end ≡ None)
    × Wrote (trail_of start ignores (map ended_file contents ++ delivered ∷ [])).steps

-- The file at this place could not be read.
pub record AreUnreadAt (by : Break) (Begins : Outset → Type 0) (ignores : Bool) (helds : List HeldFile) (before rest : Option (List ℕ))
    (Wrote : Outset → List Step → Type 0) (first place : ℕ) : Type 0 where
  pub there : (k : ℕ) → k < place → held_file_at helds k ≢ Absent
  pub clean : (start : Outset) → Begins start → IsCleanTo start ignores helds place
  pub left : (start : Outset) → Begins start → (contents : List (List ℕ)) → AreHeldFiles (take place helds) contents
      → BreakLeaves by start ignores (held_file_at helds place) before rest (Wrote start) first place contents

-- This was written for some of the steps, from the first on, whatever files follow those in front of a place.
pub record AreShortTo (Begins : Outset → Type 0) (ignores : Bool) (helds : List HeldFile) (Wrote : Outset → List Step → Type 0)
    : Type 0 where
  pub place : ℕ
  pub there : (k : ℕ) → k < place → held_file_at helds k ≢ Absent
  pub short : (start : Outset) → Begins start → (contents : List (List ℕ)) → AreHeldFiles (take place helds) contents
      → (files : List File) →
      (steps : List Step) × (more : List Step) × Wrote start steps
      × ((trail_of start ignores (map ended_file contents ++ files)).steps ≡ steps ++ more)

-- ---- for a consumer, which writes nothing and is told nothing before all files
abbrev pub BeginsFresh : ℕ → Outset → Type 0
BeginsFresh room start = start ≡ fresh_start room

-- the traces in front of this place were read
abbrev pub TracesAreReadTo : {C : Type 0} → (C → Told → Type 0) → Traces → ℕ → (List ℕ → HeldFile) → Option (List ℕ) → Option (List ℕ)
    → Feed C → ℕ → ℕ → Type 0
TracesAreReadTo Stands traces whole file before rest feed room place =
    AreReadTo (BeginsFresh whole) traces.ignore_missing_entry (helds_of traces file) before rest
    (λ start. StandsBehind Stands feed) room 0 place

-- what reading all files comes to
abbrev pub FilesGive : {C : Type 0} → (C → Told → Type 0) → Traces → ℕ → (List ℕ → HeldFile) → Option (List ℕ)
    → Result (Feed C) FilesFault → Reading → Option (List ℕ) → Type 0
FilesGive Stands traces whole file before (Ok s) new rest =
    TracesAreReadTo Stands traces whole file before rest s (room_of new) (length traces.names)
FilesGive Stands traces whole file before (Err fault) new rest = FaultSays traces whole file before fault rest
