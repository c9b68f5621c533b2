-- The course of a run: what it comes to after each of its blocks, and at its end.
use Rattle.std.specs.Prelude.{Bool, List, map, Option, Result}
use Rattle.dk_blocks.specs.History.{History}
use Rattle.dk_driver.specs.Files.{FaultAt, File}
use Rattle.dk_driver.specs.Trails.{Step, Trail, trail_of}
use Rattle.dk_driver.specs.Walks.{fresh_start}
pub use Rattle.dk_driver.specs.Trails.{Outset, fault_in, line_limit, standard_limits, total_limit}

-- no samples
abbrev pub first_start : Outset
first_start = fresh_start total_limit

-- the histories after the blocks without a fault, one for each, and then the last history or the first fault
pub record Course (Fault : Type 0) : Type 0 where
  pub after : List History
  pub end : Result History Fault

-- the histories after steps
abbrev pub histories_of : List Step → List History
histories_of steps = map (λ step. step.history) steps

-- the course along a trail
abbrev pub course_along : {Fault : Type 0} → Trail Fault → Course Fault
course_along trail = record { after = histories_of trail.steps; end = trail.end }

-- the course of a run over all of its files, behind its start
unfoldable pub course_of : Outset → Bool → List File → Course FaultAt
course_of start ignores files = course_along (trail_of start ignores files)

-- the fault of the earliest moment
abbrev pub first_fault : Outset → Bool → List File → Option FaultAt
first_fault start ignores files = fault_in (course_of start ignores files).end
