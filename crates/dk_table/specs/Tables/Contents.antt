-- What reading the files comes to.
use Rattle.std.specs.Prelude.{◌≡◌, ◌<◌, ◌⊎◌, ◌++◌, ⊤, ℕ, List, [], ◌∷◌, length, map, take}
use Rattle.csv.specs.Reading.{strip_bom}
use Rattle.dk_driver.specs.Reads.{AtStart, Break, HasBroken, Within, held_file_at}
use Rattle.dk_driver.specs.declared.fault.FilesFault.{FilesFault}
use Rattle.dk_driver.specs.declared.fault.FilesFault.TheVariants.{Refused, Start, Read, NoMemory}
use Rattle.dk_io.specs.Outside.{HeldFile, Untold, Absent, Holds}
use Rattle.dk_table.specs.Tables.{config_by}
use Rattle.dk_table.specs.Tables.Chunks.{EndsRow}
use Rattle.dk_table.specs.declared.words.command.Command.{Command}

-- what is told of files of these names
abbrev pub helds_of : List (List ℕ) → (List ℕ → HeldFile) → List HeldFile
helds_of names file = map file names

-- a file of which this is told was read as these bytes: it is not absent, and has them, where they are told
abbrev pub ReadAs : HeldFile → List ℕ → Type 0
ReadAs Untold bytes = ⊤
ReadAs Absent bytes = ⊥
ReadAs (Holds held) bytes = held ≡ bytes

-- each of the files was
abbrev pub AreReadAs : List HeldFile → List (List ℕ) → Type 0
AreReadAs [] [] = ⊤
AreReadAs (held ∷ helds) (bytes ∷ contents) = ReadAs held bytes × AreReadAs helds contents
AreReadAs _ _ = ⊥

-- The file at this place could not be read, and this is the cause; those in front of it were read.
pub record IsUnreadAt (names : List (List ℕ)) (file : List ℕ → HeldFile) (rose : Type 0) (by : Break) (place : ℕ) : Type 0 where
  pub named : place < length names
  pub cause : HasBroken by (held_file_at (helds_of names file) place) rose
  pub front : List (List ℕ)
  pub front_read : AreReadAs (take place (helds_of names file)) front

-- what a fault says
abbrev pub FaultSays : List (List ℕ) → (List ℕ → HeldFile) → Type 0 → FilesFault → Type 0
FaultSays names file rose (Refused place line why) = ⊥
FaultSays names file rose (Start place) = IsUnreadAt names file rose AtStart place
FaultSays names file rose (Read place) = IsUnreadAt names file rose Within place
FaultSays names file rose NoMemory = ⊤

-- what a fault of one file says, which stands at a place
abbrev pub OwnFaultSays : HeldFile → Type 0 → ℕ → FilesFault → Type 0
OwnFaultSays held rose place (Refused other line why) = ⊥
OwnFaultSays held rose place (Start other) = (other ≡ place) × HasBroken AtStart held rose
OwnFaultSays held rose place (Read other) = (other ≡ place) × HasBroken Within held rose
OwnFaultSays held rose place NoMemory = ⊤

-- ---- files that are read piece by piece
-- The file of which this is told begins so, behind its byte order mark. Of one that is absent nothing was read.
abbrev pub Begins : HeldFile → List ℕ → Type 0
Begins Untold front = ⊤
Begins Absent front = front ≡ []
Begins (Holds bytes) front = (rest : List ℕ) × (strip_bom bytes ≡ front ++ rest)

-- Of a file that can't be started nothing was read.
abbrev pub IsFrontBy : Break → List ℕ → Type 0
IsFrontBy AtStart front = front ≡ []
IsFrontBy Within front = ⊤

-- Files that were read to their ends, and the front of the next, which is whole rows. Behind the last there is none.
pub record Reached (c : Command) (helds : List HeldFile) : Type 0 where
  pub contents : List (List ℕ)
  pub front : List ℕ
  pub read : AreReadAs (take (length contents) helds) contents
  pub next : (front ≡ []) ⊎ (length contents < length helds)
  pub begins : Begins (held_file_at helds (length contents)) front
  pub whole : EndsRow (config_by c.separator) front
