-- What walks through files come to.
use Rattle.std.specs.Prelude.{◌≡◌, ◌++◌, ℕ, Bool, List, Ok}
use Rattle.dk_blocks.specs.History.{History}
use Rattle.dk_driver.specs.Consuming.{Record}
use Rattle.dk_driver.specs.Files.{File}
use Rattle.dk_driver.specs.Walks.{end_of, walk_of}

-- Files behind others add records behind theirs: no record of the first files changes, if they hold no fault.
abbrev pub RecordsGoOn : Type 0
RecordsGoOn =
    (ignores : Bool) (room : ℕ) (front files : List File) (mid : History) → end_of ignores room front ≡ Ok mid
    → (more : List Record) × ((walk_of ignores room (front ++ files)).records ≡ (walk_of ignores room front).records ++ more)
