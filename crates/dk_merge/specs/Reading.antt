-- What reading a file whole comes to.
use Rattle.std.specs.Prelude.{◌≡◌, ◌≢◌, ◌≤◌, ◌<◌, ℕ, List, [], length, Option, Some}
use Rattle.dk_base.specs.declared.why.Why.{Why}
use Rattle.dk_base.specs.declared.why.Why.TheVariants.{TooLong}
use Rattle.dk_io.specs.Outside.{DeliversUpTo, HeldFile, Absent, Holds}
use Rattle.dk_io.specs.declared.whole.AllFault.{AllFault}
use Rattle.dk_io.specs.declared.whole.AllFault.TheVariants as all
use Rattle.dk_driver.specs.Reads.{AtStart, HasBroken, Within}
use Rattle.dk_driver.specs.declared.fault.FileFault.{FileFault}
use Rattle.dk_driver.specs.declared.fault.FileFault.TheVariants.{Refused, Start, Read, NoMemory}

-- It was read whole, where it may have so many bytes.
pub record IsWhole (room : ℕ) (held : HeldFile) (text : List ℕ) (rest : Option (List ℕ)) : Type 0 where
  pub there : held ≢ Absent
  pub short : length text ≤ room
  pub all : (xs : List ℕ) → held ≡ Holds xs → (text ≡ xs) × (rest ≡ Some [])

-- it is refused as a whole: at its line 0
abbrev pub refused_whole : Why → FileFault
refused_whole why = Refused 0 why

-- what a fault in reading it says
abbrev pub UnreadGives : ℕ → HeldFile → Type 0 → Option (List ℕ) → Option (List ℕ) → FileFault → Type 0
UnreadGives room held rose before rest (Refused line why) =
    (line ≡ 0) × (held ≢ Absent) × (why ≡ TooLong) × ((xs : List ℕ) → held ≡ Holds xs → room < length xs)
UnreadGives room held rose before rest Start = HasBroken AtStart held rose × (rest ≡ before)
UnreadGives room held rose before rest Read =
    HasBroken Within held rose × ((xs : List ℕ) → held ≡ Holds xs → DeliversUpTo room (Some xs) rest)
UnreadGives room held rose before rest NoMemory = Unit {0}

abbrev pub fault_of_read : AllFault → FileFault
fault_of_read all.Read = Read
fault_of_read all.TooLong = refused_whole TooLong
fault_of_read all.NoMemory = NoMemory
