-- What files tell a consumer, a block after another.
use Rattle.std.specs.Prelude.{◌≡◌, ◌++◌, ◌∷◌, [], ℕ, List, Some, length, replicate}
use Rattle.dk_base.specs.Values.{values_of}
use Rattle.dk_base.specs.declared.values.Value.{Value}
use Rattle.dk_blocks.specs.History.{own_samples_with}
use Rattle.dk_derive.specs.Laws.{all_vars_of}
use Rattle.dk_derive.specs.Values.{values_by_form}
use Rattle.dk_events.specs.Telling.{PointsGoOn}
use Rattle.dk_events.specs.declared.event.Event.{Event}
use Rattle.dk_events.specs.declared.event.Event.TheVariants as event
use Rattle.dk_points.specs.Table.{Point}

-- for each point its own samples, each as the values of the point's base variables
abbrev pub Samples : Type 0
Samples = List (List (List Value))

-- A sample record.
pub record Record : Type 0 where
  -- the points that the blocks before it declare
  pub table : List Point
  -- the place of its file among the files, and its first line there
  pub file : ℕ
  pub line : ℕ
  -- the place of its point, and the values of that point's base variables
  pub point : ℕ
  pub values : List Value

-- what files told so far: the points that they declare, the own samples of each, and the records of these samples in their order
pub record Told : Type 0 where
  pub points : List Point
  pub samples : Samples
  pub records : List Record

-- nothing yet
abbrev pub nothing_told : Told
nothing_told = record { points = []; samples = []; records = [] }

-- points behind the others, which have no samples
pub record DeclaresMore (old new : Told) : Type 0 where
  pub more : List Point
  pub points_are : new.points ≡ old.points ++ more
  pub samples_are : new.samples ≡ old.samples ++ replicate (length more) []
  pub records_are : new.records ≡ old.records

-- a sample behind those of a point; the base values are those that the told ones are derived from
pub record SamplesMore (file line p : ℕ) (values : List Value) (old new : Told) : Type 0 where
  pub base : List Value
  pub points_are : new.points ≡ old.points
  pub derived : values ≡ values_by_form (all_vars_of old.points p) base
  pub samples_are : new.samples ≡ own_samples_with old.samples p base
  pub records_are : new.records
      ≡ old.records ++ record { table = old.points; file = file; line = line; point = p; values = base } ∷ []

-- The event of a block of the file at a place tells more: what was told before it, and what is behind it.
abbrev pub Tells : ℕ → Event → Told → Told → Type 0
Tells file event.Nothing old new = new ≡ old
Tells file event.Declared old new = DeclaresMore old new
Tells file (event.Sample point line values) old new = SamplesMore file line point.0 (values_of values.now) old new

-- The table goes on with the event from one that this holds of.
abbrev pub IsBehind : (List Point → Type 0) → List Point → Event → Type 0
IsBehind Fits ps' e = (ps : List Point) × Fits ps × PointsGoOn ps (Some e) ps'
