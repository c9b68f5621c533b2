-- The walk through files: the sample records of their blocks, in order, and its end, which is a history or the first fault.
use Rattle.std.specs.Prelude.{ℕ, Bool, List, [], ◌∷◌, flat_map, Option, Result}
use Rattle.std.specs.Option.{option_map_or}
use Rattle.dk_blocks.specs.History.{Declares, Effect, History, Nothing, Samples, Taken, no_history}
use Rattle.dk_points.specs.Table.{Point}
use Rattle.dk_driver.specs.Consuming.{Record}
use Rattle.dk_driver.specs.Files.{FaultAt, File}
use Rattle.dk_driver.specs.Trails.{Outset, Step, Trail, trail_of}
pub use Rattle.dk_driver.specs.Trails.{fault_in, line_limit, standard_limits, total_limit}

-- the records of the blocks without a fault, and then the last history or the first fault
pub record Walk (Fault : Type 0) : Type 0 where
  pub records : List Record
  pub end : Result History Fault

-- The record of a block that adds a sample, in the file at this place. A sample leaves the table as the blocks before it made it.
abbrev pub records_by : ℕ → List Point → Effect → List Record
records_by place ps Nothing = []
records_by place ps Declares = []
records_by place ps (Samples p line values) =
    record { table = ps; file = place; line = line; point = p; values = values } ∷ []

abbrev pub records_in : ℕ → Taken → List Record
records_in place t = option_map_or (records_by place t.history.table) t.effect []

-- the records of steps
abbrev pub records_of : List Step → List Record
records_of steps = flat_map (λ step. records_by step.file step.history.table step.effect) steps

-- the walk along a trail
abbrev pub walk_along : {Fault : Type 0} → Trail Fault → Walk Fault
walk_along trail = record { records = records_of trail.steps; end = trail.end }

-- no samples, and room for so many bytes
abbrev pub fresh_start : ℕ → Outset
fresh_start room = record { history = no_history; room = room }

-- the walk through all files, where room bytes may come
unfoldable pub walk_of : Bool → ℕ → List File → Walk FaultAt
walk_of ignores room files = walk_along (trail_of (fresh_start room) ignores files)

-- its end
abbrev pub end_of : Bool → ℕ → List File → Result History FaultAt
end_of ignores room files = (walk_of ignores room files).end

-- the fault of the earliest file, and there of the earliest line
abbrev pub first_fault : Bool → ℕ → List File → Option FaultAt
first_fault ignores room files = fault_in (end_of ignores room files)
