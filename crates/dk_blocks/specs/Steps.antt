-- Steps of a reader through the bytes that are left: what one call of `next` answers.
use Rattle.std.specs.Prelude.{◌≡◌, ◌≤◌, ◌<◌, ◌⊎◌, not, ◌+◌, ◌-◌, ℕ, Bool, true, false, List, [], ◌++◌, is_some, length, ⊤, Option, Some, None, Result, Ok, Err}
use Rattle.dk_base.specs.Reading.{LineFault as BlockLineFault, Reads, ◌>>=◌}
use Rattle.dk_lines.specs.Left.{Over, lines_left}
use Rattle.dk_lines.specs.Reading.{Reading, room_of}
use Rattle.dk_blocks.specs.Blocks.{Groups, Last, groups_of}
use Rattle.dk_blocks.specs.Finding.{outcome_of}
use Rattle.dk_blocks.specs.History.{History, Taken, block_by, declared_effect, effect_of}
use Rattle.dk_blocks.specs.LastLines.{LeavesBlank}
use Rattle.dk_blocks.specs.Reading.{Stepped, after_next, stepped}
use Rattle.dk_blocks.specs.Standing.{Stands}
use Rattle.dk_points.specs.declared.declared.Declared.{Declared}
use Rattle.dk_blocks.specs.declared.found.Found.{Found}
use Rattle.dk_blocks.specs.declared.reader.Reader.{Reader}
use Rattle.dk_base.specs.declared.faults.Fault.{Fault}
use Rattle.dk_base.specs.declared.faults.Fault.TheVariants as x

-- The groups that are left: none where the reader has come to the file's end.
abbrev pub groups_left : Bool → Reading → Bool → List ℕ → Groups
groups_left true r is_ended xs = Last [] (Over (r.number + 1))
groups_left false r is_ended xs = groups_of (lines_left r is_ended xs)

-- what a block comes to, with the groups behind it
abbrev pub behind_block : Result Taken BlockLineFault → Groups → Result Stepped BlockLineFault
behind_block outcome left = outcome >>= λ t. Ok (stepped t left)

-- no block is found, and no fault
abbrev pub IsNoBlock : Result Stepped BlockLineFault → Type 0
IsNoBlock (Ok step) = step.effect ≡ None
IsNoBlock (Err fault) = ⊥

-- Of a file that is cut off the same is said, or this holds, and no block is found there: the last line of an ended file, which no LF ends,
-- is none where it is cut off.
abbrev pub IsCutAlikeOr : Type 0 → Result Stepped BlockLineFault → Result Stepped BlockLineFault → Type 0
IsCutAlikeOr Else all later = (all ≡ later) ⊎ (Else × IsNoBlock all)

-- The next block, or the file's end, was read, and this is what it comes to.
pub record Steps (ignores : Bool) (read : Reads Taken) (over : Bool) (r : Reading) (xs : List ℕ)
    (outcome : Result Taken BlockLineFault) (over' : Bool) (r' : Reading) (ys : List ℕ) : Type 0 where
  pub front : List ℕ
  pub split : xs ≡ front ++ ys
  pub room : room_of r' ≡ room_of r - length front
  -- nothing is left at the file's end, and where nothing was left, this is the file's end
  pub nothing : (over ≡ true → xs ≡ []) → over' ≡ true → ys ≡ []
  pub ends : xs ≡ [] → over' ≡ true
  -- where what is left now ends in a blank line without LF, what was left did
  pub last : LeavesBlank r' ys → LeavesBlank r xs
  pub takes : after_next ignores read (groups_left over r true xs)
      ≡ behind_block outcome (groups_left over' r' true ys)
  -- Only at the file's end, or behind a blank line without LF, does a cut-off file differ.
  pub cut : (d rest : List ℕ) → ys ≡ d ++ rest →
      IsCutAlikeOr ((ys ≡ []) × (over' ≡ false → LeavesBlank r xs))
      (after_next ignores read (groups_left over r false (front ++ d)))
      (behind_block outcome (groups_left over' r' false d))

-- Reading failed in front of the file's end, and what was delivered holds no block and no fault.
pub record Stops (ignores : Bool) (read : Reads Taken) (over : Bool) (r : Reading) (xs : List ℕ) (left' : Option (List ℕ)) : Type 0 where
  pub goes_on : over ≡ false
  pub front : List ℕ
  pub rest : List ℕ
  pub split : xs ≡ front ++ rest
  pub left_is : left' ≡ Some rest
  pub fine : IsNoBlock (after_next ignores read (groups_left over r false front))

-- In front of the file's end a line was read. Where there was no block, the file is at its end.
abbrev pub Grown : Bool → Reading → Reading → Type 0
Grown true r r' = r.total ≤ r'.total
Grown false r r' = (r.total < r'.total) × (r'.total ≤ r.limits.total)

-- what a fault of `next` says, where the bytes xs are left: it is that of the next block, or reading failed
abbrev pub FaultAnswers : Bool → Reads Taken → Bool → Reading → List ℕ → Fault → Option (List ℕ) → Type 0
FaultAnswers ignores read over r xs (x.Refused file line why) left' =
    after_next ignores read (groups_left over r true xs) ≡ Err (record { line = line; why = why })
FaultAnswers ignores read over r xs (x.Read file) left' = Stops ignores read over r xs left'
FaultAnswers ignores read over r xs x.NoMemory left' = ⊤

-- what `next` answers: the reader behind the next block, and what was found of it, if there is one
abbrev pub NextBlock : Bool → Reader → History → Reading → List ℕ → Result (Reader × Option Found) Fault → Reading → Option (List ℕ)
    → Type 0
NextBlock ignores s h r xs (Ok a) r' left' =
    (h' : History) × Stands a.0.kept h'
    × ((ys : List ℕ) × (left' ≡ Some ys) × Steps ignores (effect_of ignores h) s.is_over r xs (outcome_of h' a.1) a.0.is_over r' ys)
NextBlock ignores s h r xs (Err fault) r' left' = FaultAnswers ignores (effect_of ignores h) s.is_over r xs fault left'

-- a fault has this file number
abbrev pub IsInFile : ℕ → Fault → Type 0
IsInFile n (x.Refused file line why) = file ≡ n
IsInFile n (x.Read file) = file ≡ n
IsInFile n x.NoMemory = ⊤

-- numbers of lines, bytes and files, whatever is answered
abbrev pub ReaderCounts : Reader → Reading → Result (Reader × Option Found) Fault → Reading → Type 0
ReaderCounts s r (Ok a) r' = (r'.limits ≡ r.limits) × (r'.is_started ≡ not a.0.is_over) × (a.0.file ≡ s.file)
    × (a.1 ≡ None → a.0.is_over ≡ true) × (is_some a.1 ≡ true → s.is_over ≡ false) × (is_some a.1 ≡ true → Grown a.0.is_over r r')
ReaderCounts s r (Err fault) r' = (r'.limits ≡ r.limits) × IsInFile s.file fault

-- what is refused behind a block comes to this fault
abbrev pub RefusedAs : Fault → Result Taken BlockLineFault → Type 0
RefusedAs (x.Refused file line why) outcome = outcome ≡ Err (record { line = line; why = why })
RefusedAs (x.Read file) outcome = ⊥
RefusedAs x.NoMemory outcome = ⊤

-- what a declaration that is taken comes to
abbrev pub DeclareGives : Result (Reader × Declared) Fault → Result Taken BlockLineFault → Type 0
DeclareGives (Ok a) outcome = (h : History) × Stands a.0.kept h × (outcome ≡ Ok (block_by (declared_effect a.1) h))
DeclareGives (Err fault) outcome = RefusedAs fault outcome
