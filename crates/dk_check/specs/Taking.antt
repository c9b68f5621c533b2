-- What a block does to the checker.
use Rattle.std.specs.Prelude.{◌≡◌, ◌++◌, ◌∷◌, [], ℕ, List}
use Rattle.dk_base.specs.Values.{values_of}
use Rattle.dk_base.specs.declared.values.Value.{Value}
use Rattle.dk_derive.specs.Values.{values_by_form}
use Rattle.dk_events.specs.declared.event.Event.{Event}
use Rattle.dk_events.specs.declared.event.Event.TheVariants as event
use Rattle.dk_hierarchy.specs.Samples.{all_vars_of}
use Rattle.dk_points.specs.Table.{Point}
use Rattle.dk_verdicts.specs.Records.{Record}
use Rattle.dk_verdicts.specs.Standing.{IsKeptUp, StandsFor, claims_of}
use Rattle.dk_verdicts.specs.declared.checker.Checker.{Checker}

-- it has taken a record more
pub record HasTaken (ps : List Point) (old new : Checker) (place point line : ℕ) (sample : List Value) : Type 0 where
  pub claims : claims_of new ≡ claims_of old
  pub kept_up : IsKeptUp ps new
  pub stands : (records : List Record) (values : List Value)
      → sample ≡ values_by_form (all_vars_of ps point) values → StandsFor old ps records
      → StandsFor new ps (records ++ record { table = ps; file = place; line = line; point = point; values = values } ∷ [])

-- what a block of the file at a place does; new points are found later, at the next record or the report
abbrev pub TakesEvent : List Point → ℕ → Event → Checker → Checker → Type 0
TakesEvent ps place (event.Sample point line values) old new = HasTaken ps old new place point.0 line (values_of values.now)
TakesEvent ps place event old new = new ≡ old
