-- What a feed stands for.
use Rattle.std.specs.Prelude.{List}
use Rattle.dk_blocks.specs.History.{History}
use Rattle.dk_events.specs.Standing.{EventsStandFor, points_of as points_in}
use Rattle.dk_points.specs.Table.{Point}
use Rattle.dk_driver.specs.Consuming.{Record, Told}
use Rattle.dk_driver.specs.Trails.{Step}
use Rattle.dk_driver.specs.Walks.{records_of}
use Rattle.dk_driver.specs.declared.feed.Feed.{Feed}

-- the points that are declared so far
abbrev pub points_of : {C : Type 0} → Feed C → List Point
points_of feed = points_in feed.events

-- what files told that come to this history by these records
abbrev pub told_by : History → List Record → Told
told_by h records = record { points = h.table; samples = h.samples; records = records }

-- The events stand for the history, and the consumer for what was told.
pub record StandsFor {C : Type 0} (Stands : C → Told → Type 0) (feed : Feed C) (h : History) (records : List Record) : Type 0 where
  pub events : EventsStandFor feed.events h
  pub consumer : Stands feed.consumer (told_by h records)

-- It stands for the history behind these steps.
abbrev pub StandsBehind : {C : Type 0} → (C → Told → Type 0) → Feed C → History → List Step → Type 0
StandsBehind Stands feed h steps = StandsFor Stands feed h (records_of steps)
