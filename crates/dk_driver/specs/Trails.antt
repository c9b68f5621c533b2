-- The trail through files: a step for each of their blocks, in order, and its end, which is a history or the first fault.
use Rattle.std.specs.Prelude.{◌+◌, ◌-◌, ℕ, Bool, List, [], ◌∷◌, ◌++◌, length, Option, Some, None, Result, Ok, Err}
use Rattle.dk_base.specs.Reading.{LineFault, Reads}
use Rattle.dk_blocks.specs.Blocks.{Group, Groups, Last, groups_of}
use Rattle.dk_blocks.specs.History.{Effect, History, Taken, effect_of, file_ended}
use Rattle.dk_blocks.specs.Reading.{after_last}
use Rattle.dk_lines.specs.Left.{lined}
use Rattle.dk_lines.specs.declared.lines.Limits.{Limits}
use Rattle.dk_driver.specs.Files.{FaultAt, File}

-- How many bytes a line may have in front of its LF, and how many all files of a run together.
abbrev pub line_limit : ℕ
line_limit = 16777216

abbrev pub total_limit : ℕ
total_limit = 1099511627776

abbrev pub standard_limits : Limits
standard_limits = record { line = line_limit; total = total_limit }

-- What a run begins with: a history, and how many bytes its files may have together.
pub record Outset : Type 0 where
  pub history : History
  pub room : ℕ

-- A step: a block of the file at this place, what it does, and the history behind it.
pub record Step : Type 0 where
  pub file : ℕ
  pub effect : Effect
  pub history : History

-- the steps of the blocks without a fault, and then the last history or the first fault
pub record Trail (Fault : Type 0) : Type 0 where
  pub steps : List Step
  pub end : Result History Fault

-- the trail ends here
abbrev pub trail_end : {Fault : Type 0} → Result History Fault → Trail Fault
trail_end end = record { steps = []; end = end }

-- these steps come first
abbrev pub behind_steps : {Fault : Type 0} → List Step → Trail Fault → Trail Fault
behind_steps before trail = record { steps = before ++ trail.steps; end = trail.end }

-- ---- a file
-- the step of a group of lines in the file at this place, if the group is a block
abbrev pub step_by : ℕ → History → Option Effect → List Step
step_by place h None = []
step_by place h (Some effect) = record { file = place; effect = effect; history = h } ∷ []

abbrev pub goes_on : ℕ → Result Taken LineFault → (History → Trail LineFault) → Trail LineFault
goes_on place (Err fault) more = trail_end (Err fault)
goes_on place (Ok t) more = behind_steps (step_by place t.history t.effect) (more t.history)

-- The trail through groups of lines, the first of which is read by `read`. Exits without an entry are left out or refused.
abbrev pub trail_of_groups : Bool → ℕ → Reads Taken → Groups → Trail LineFault
trail_of_groups ignores place read (Group ls close rest) =
    goes_on place (read ls (Some close)) (λ h. trail_of_groups ignores place (effect_of ignores h) rest)
trail_of_groups ignores place read (Last ls end) = goes_on place (after_last read ls end) (λ h. trail_end (Ok h))

-- behind a history
abbrev pub trail_behind : Bool → ℕ → History → Groups → Trail LineFault
trail_behind ignores place h groups = trail_of_groups ignores place (effect_of ignores h) groups

-- the trail through the file at this place, where room bytes may still come
abbrev pub trail_of_file : Bool → ℕ → History → ℕ → File → Trail LineFault
trail_of_file ignores room h place file =
    trail_behind ignores place h (groups_of (lined line_limit room 0 file.is_ended file.bytes))

-- ---- files
-- the fault of the file at this place, or the trail through what follows
abbrev pub then_files : ℕ → Result History LineFault → (History → Trail FaultAt) → Trail FaultAt
then_files place (Ok h) more = more h
then_files place (Err fault) more = trail_end (Err (record { file = place; line = fault.line; why = fault.why }))

-- the trail through these files, in front of which stand place others, where room bytes may still come
abbrev pub trail_of_files : Bool → ℕ → History → ℕ → List File → Trail FaultAt
trail_of_files ignores room h place [] = trail_end (Ok h)
trail_of_files ignores room h place (file ∷ files) =
    behind_steps (trail_of_file ignores room h place file).steps
    (then_files place (trail_of_file ignores room h place file).end
    (λ next. trail_of_files ignores (room - length file.bytes) (file_ended next) (place + 1) files))

-- the trail through all files, behind a start
abbrev pub trail_of : Outset → Bool → List File → Trail FaultAt
trail_of start ignores files = trail_of_files ignores start.room start.history 0 files

abbrev pub fault_in : Result History FaultAt → Option FaultAt
fault_in (Ok history) = None
fault_in (Err fault) = Some fault
