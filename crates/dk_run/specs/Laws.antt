-- What the definitions of runs that are saved and resumed come to.
use Rattle.std.specs.Prelude.{◌≡◌, ◌≤◌, ◌++◌, ℕ, Bool, List, Ok, Option, Some, length, map}
use Rattle.dk_blocks.specs.History.{History}
use Rattle.dk_io.specs.Outside.{HeldFile, Holds}
use Rattle.dk_core.specs.Resuming.{AreFew, IsStart, state_file}
use Rattle.dk_driver.specs.Files.{File, ended_file}
use Rattle.dk_run.specs.Courses.{Outset, course_of, total_limit}
use Rattle.dk_run.specs.Starts.{Begins, BeginsLike, IsState, resumed_start}

-- A run that is cut behind any of its files, saved, and resumed with the other files, comes to what the whole run comes to.
abbrev pub ResumedRunsGoOn : Type 0
ResumedRunsGoOn =
    (start : Outset) (ignores : Bool) (front files : List File) (mid resumed whole : History) → (course_of start ignores front).end ≡ Ok mid
    → (course_of (resumed_start mid) ignores files).end ≡ Ok resumed → (course_of start ignores (front ++ files)).end ≡ Ok whole
    → resumed ≡ whole

-- A run begins with what a state file can tell, of at most as many bytes as all files of a run may have, and so have its files.
abbrev pub RunsBeginAtStarts : Type 0
RunsBeginAtStarts =
    (resume : Option (List ℕ)) (file : List ℕ → HeldFile) (start : Outset) → Begins resume file start
    → IsStart start.history × (length (state_file start.history) ≤ total_limit) × (start.room ≤ total_limit)

-- A run that begins so ends with what a state file can tell, where each point has at most 2^40 own samples.
abbrev pub RunsEndAtStarts : Type 0
RunsEndAtStarts =
    (start : Outset) (ignores : Bool) (contents : List (List ℕ)) (mid : History) → IsStart start.history
    → length (state_file start.history) ≤ total_limit → start.room ≤ total_limit
    → (course_of start ignores (map ended_file contents)).end ≡ Ok mid → AreFew mid.samples → IsStart mid

-- What a run begins with it also begins with as far as reading goes.
abbrev pub StartsBeginAlike : Type 0
StartsBeginAlike =
    (resume : Option (List ℕ)) (file : List ℕ → HeldFile) (start : Outset) → Begins resume file start → BeginsLike resume file start

-- A run that names a file that holds a state has a start, as far as reading goes, whether or not it is the state of a history.
abbrev pub EachStateHasAStart : Type 0
EachStateHasAStart =
    (name xs : List ℕ) (file : List ℕ → HeldFile) → file name ≡ Holds xs → IsState xs → (start : Outset) × BeginsLike (Some name) file start
