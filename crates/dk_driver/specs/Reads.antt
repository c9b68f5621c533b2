-- What the answers of `read_files` say.
use Rattle.std.specs.Prelude.{◌≡◌, ◌≢◌, ◌≤◌, ◌<◌, ◌⊎◌, ◌+◌, ℕ, zero, suc, Bool, true, List, [], ◌∷◌, ◌++◌, map, take, length, Option, Some, None, Result, Ok, Err, slice_get, unwrap_or}
use Rattle.dk_base.specs.declared.why.Why.{Why}
use Rattle.dk_blocks.specs.History.{History}
use Rattle.dk_blocks.specs.LastLines.{ends_in_blank_line}
use Rattle.dk_events.specs.declared.ended.Ended.{Ended}
use Rattle.dk_events.specs.declared.ended.Ended.TheVariants as ended
use Rattle.dk_io.specs.Outside.{HeldFile, Absent, Holds, Untold}
use Rattle.dk_driver.specs.Consuming.{Record, Told}
use Rattle.dk_driver.specs.Files.{AreHeldFiles, File, FaultAt, ended_file}
use Rattle.dk_driver.specs.Standing.{StandsFor}
use Rattle.dk_driver.specs.Walks.{end_of, first_fault, walk_of}
use Rattle.dk_driver.specs.declared.fault.FilesFault.{FilesFault}
use Rattle.dk_driver.specs.declared.fault.FilesFault.TheVariants.{Refused, Start, Read, NoMemory}
use Rattle.dk_driver.specs.declared.feed.Feed.{Feed}
use Rattle.dk_driver.specs.declared.traces.Traces.{Traces}

-- ---- what is told of the files
-- of each, in order
abbrev pub helds_of : Traces → (List ℕ → HeldFile) → List HeldFile
helds_of traces file = map file traces.names

-- of the file at a place
abbrev pub held_file_at : List HeldFile → ℕ → HeldFile
held_file_at helds place = unwrap_or (slice_get helds place) Untold

-- what is left of the inputs when this many files were read to their ends
abbrev pub rest_behind : ℕ → Option (List ℕ) → Option (List ℕ)
rest_behind zero rest = rest
rest_behind (suc n) rest = Some []

-- As far as the first n files are held, from the first on, they hold no fault, where room bytes may come.
abbrev pub AreCleanWithin : Bool → ℕ → List HeldFile → ℕ → Type 0
AreCleanWithin ignores room helds n =
    (k : ℕ) (contents : List (List ℕ)) → k ≤ n → AreHeldFiles (take k helds) contents
    → first_fault ignores room (map ended_file contents) ≡ None

abbrev pub AreClean : Traces → ℕ → (List ℕ → HeldFile) → ℕ → Type 0
AreClean traces room file n = AreCleanWithin traces.ignore_missing_entry room (helds_of traces file) n

-- ---- all files were read to their ends
-- What they come to, where they hold these contents: a history without a fault, and records, for which what is kept stands. Nothing is
-- left of the last.
pub record ComeTo (traces : Traces) (room : ℕ) (before rest : Option (List ℕ)) (Stands : History → List Record → Type 0)
    (contents : List (List ℕ)) : Type 0 where
  pub history : History
  pub records : List Record
  pub walk : walk_of traces.ignore_missing_entry room (map ended_file contents) ≡ record { records = records; end = Ok history }
  pub stands : Stands history records
  pub rest_is : rest ≡ rest_behind (length traces.names) before

pub record AreRead (traces : Traces) (room : ℕ) (file : List ℕ → HeldFile) (before rest : Option (List ℕ))
    (Stands : History → List Record → Type 0) : Type 0 where
  pub there : (k : ℕ) → k < length traces.names → held_file_at (helds_of traces file) k ≢ Absent
  pub clean : AreClean traces room file (length traces.names)
  pub come_to : (contents : List (List ℕ)) → AreHeldFiles (helds_of traces file) contents → ComeTo traces room before rest Stands contents

-- ---- a fault
-- The files up to this place hold this fault as their first.
pub record IsRefusedAt (traces : Traces) (room : ℕ) (file : List ℕ → HeldFile) (place line : ℕ) (why : Why) : Type 0 where
  pub there : (k : ℕ) → k < place + 1 → held_file_at (helds_of traces file) k ≢ Absent
  pub clean : AreClean traces room file place
  pub first : (contents : List (List ℕ)) → AreHeldFiles (take (place + 1) (helds_of traces file)) contents
      → end_of traces.ignore_missing_entry room (map ended_file contents) ≡ Err (record { file = place; line = line; why = why })

-- why a file was not read to its end: it could not be started, or it was, and then a read failed
pub data Break : Type 0 where
  AtStart : Break
  Within : Break

-- This was delivered of a file that holds the bytes xs, of which a read failed: all in front of what is left. It counts as ended only where
-- nothing is left and the bytes end in a blank line without LF: then the failed read was that of the file's end, and this line has ended
-- the last block.
abbrev pub IsDelivered : List ℕ → Option (List ℕ) → File → Type 0
IsDelivered xs after file = (rest : List ℕ) × (after ≡ Some rest) × (xs ≡ file.bytes ++ rest)
    × (file.is_ended ≡ true → (rest ≡ []) × (ends_in_blank_line xs ≡ true))

-- What was read where a file can't be read, behind files of these contents. A start that fails delivers nothing of the file; what was
-- delivered holds no fault.
abbrev pub UnreadLeaves : Break → Traces → ℕ → ℕ → HeldFile → Option (List ℕ) → Option (List ℕ) → List (List ℕ) → Type 0
UnreadLeaves AtStart traces room place held before after contents = after ≡ rest_behind place before
UnreadLeaves Within traces room place held before after contents = (xs : List ℕ) → held ≡ Holds xs →
    (delivered : File) × IsDelivered xs after delivered
    × (first_fault traces.ignore_missing_entry room (map ended_file contents ++ delivered ∷ []) ≡ None)

-- The file at this place could not be read.
pub record IsUnreadAt (by : Break) (traces : Traces) (room : ℕ) (file : List ℕ → HeldFile) (before rest : Option (List ℕ)) (place : ℕ)
    : Type 0 where
  pub there : (k : ℕ) → k < place → held_file_at (helds_of traces file) k ≢ Absent
  pub clean : AreClean traces room file place
  pub left : (contents : List (List ℕ)) → AreHeldFiles (take place (helds_of traces file)) contents
      → UnreadLeaves by traces room place (held_file_at (helds_of traces file) place) before rest contents

-- what a fault says
abbrev pub FaultSays : Traces → ℕ → (List ℕ → HeldFile) → Option (List ℕ) → FilesFault → Option (List ℕ) → Type 0
FaultSays traces room file before (Refused place line why) rest = IsRefusedAt traces room file place line why
FaultSays traces room file before (Start place) rest = IsUnreadAt AtStart traces room file before rest place
FaultSays traces room file before (Read place) rest = IsUnreadAt Within traces room file before rest place
FaultSays traces room file before NoMemory rest = Unit {0}

-- it is of one of the n files
abbrev pub IsPlaced : ℕ → FilesFault → Type 0
IsPlaced n (Refused place line why) = place < n
IsPlaced n (Start place) = place < n
IsPlaced n (Read place) = place < n
IsPlaced n NoMemory = Unit {0}

-- The cause of a break, where this is told of the file: a start fails where the file is absent or a fault of the inputs rose, and a read
-- only where one rose, of a file that is not absent.
abbrev pub HasBroken : Break → HeldFile → Type 0 → Type 0
HasBroken AtStart held rose = (held ≡ Absent) ⊎ rose
HasBroken Within held rose = (held ≢ Absent) × rose

abbrev pub HasCause : Traces → (List ℕ → HeldFile) → Type 0 → FilesFault → Type 0
HasCause traces file rose (Refused place line why) = Unit {0}
HasCause traces file rose (Start place) = HasBroken AtStart (held_file_at (helds_of traces file) place) rose
HasCause traces file rose (Read place) = HasBroken Within (held_file_at (helds_of traces file) place) rose
HasCause traces file rose NoMemory = Unit {0}

-- ---- all answers
-- what reading says of the files, where room bytes may come
abbrev pub ReadingSays : {C : Type 0} → (C → Told → Type 0) → Traces → ℕ → (List ℕ → HeldFile) → Option (List ℕ)
    → Result (Feed C) FilesFault → Option (List ℕ) → Type 0
ReadingSays Stands traces room file before (Ok feed) rest = AreRead traces room file before rest (StandsFor Stands feed)
ReadingSays Stands traces room file before (Err fault) rest = FaultSays traces room file before fault rest

-- ---- completeness
-- the files were read, or memory ran out
abbrev pub IsReadOrShort : {C : Type 0} → Result (Feed C) FilesFault → Type 0
IsReadOrShort (Ok feed) = Unit {0}
IsReadOrShort (Err fault) = fault ≡ NoMemory

-- the answer is this fault, or memory ran out
abbrev pub IsRefusedOrShort : {C : Type 0} → FaultAt → Result (Feed C) FilesFault → Type 0
IsRefusedOrShort f (Ok feed) = ⊥
IsRefusedOrShort f (Err fault) = (fault ≡ Refused f.file f.line f.why) ⊎ (fault ≡ NoMemory)

-- Files that are held are read where they hold no fault, and else refused at their first one. Files behind a faulty one need not be there.
pub record IsComplete {C : Type 0} (traces : Traces) (room : ℕ)
    (file : List ℕ → HeldFile) (result : Result (Feed C) FilesFault) : Type 0 where
  pub read : (contents : List (List ℕ)) → AreHeldFiles (helds_of traces file) contents
      → first_fault traces.ignore_missing_entry room (map ended_file contents) ≡ None → IsReadOrShort result
  pub refused : (n : ℕ) (contents : List (List ℕ)) (f : FaultAt) → AreHeldFiles (take n (helds_of traces file)) contents
      → first_fault traces.ignore_missing_entry room (map ended_file contents) ≡ Some f → IsRefusedOrShort f result

-- how a program ends that tells a fault
abbrev pub status_of : FilesFault → Ended
status_of (Refused place line why) = ended.Refused
status_of (Start place) = ended.Read
status_of (Read place) = ended.Read
status_of NoMemory = ended.NoMemory
