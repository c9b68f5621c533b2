-- Files by name, one of which is read from its front on.
use Rattle.std.specs.Prelude.{ℕ, zero, suc, List, [], ◌∷◌, if◌then◌else◌}
use Rattle.std.specs.Str.{bytes_eq}
use Rattle.dk_io.specs.Outside.{HeldFile, Untold, Absent, Holds}

-- names and bytes of the files, the most bytes that a read moves, and what is left of the file that is started
pub record Files : Type 0 where
  pub named : List (List ℕ × List ℕ)
  pub piece : ℕ
  pub rest : List ℕ

-- the first file of a name
abbrev pub named_file : List (List ℕ × List ℕ) → List ℕ → HeldFile
named_file [] name = Absent
named_file (file ∷ files) name = if bytes_eq file.0 name then Holds file.1 else named_file files name

-- the bytes that are told, and none where there are none
abbrev pub bytes_of : HeldFile → List ℕ
bytes_of Untold = []
bytes_of Absent = []
bytes_of (Holds bytes) = bytes

-- the first file of a name, and an empty one where there is none
abbrev pub held_or_empty : List (List ℕ × List ℕ) → List ℕ → HeldFile
held_or_empty files name = Holds (bytes_of (named_file files name))

-- the bytes of the file at a place, and none behind the last
abbrev pub bytes_at : List (List ℕ × List ℕ) → ℕ → List ℕ
bytes_at [] place = []
bytes_at (file ∷ files) zero = file.1
bytes_at (file ∷ files) (suc place) = bytes_at files place
