-- What a block adds to a history.
use Rattle.std.specs.Prelude.{◌≡◌, ◌<◌, ◌++◌, ℕ, Bool, List, [], length, replicate, Option, Some, None, Ok}
use Rattle.dk_base.specs.Reading.{Line}
use Rattle.dk_base.specs.declared.values.Value.{Value}
use Rattle.dk_points.specs.Table.{Point}
use Rattle.dk_blocks.specs.History.{Effect, Nothing, Declares, History, Samples, Taken, effect_of, own_samples_with}

-- neither points nor samples
pub record AddsNothing (h h' : History) : Type 0 where
  pub table : h'.table ≡ h.table
  pub samples : h'.samples ≡ h.samples

-- points behind the others, which have no samples
pub record AddsPoints (h h' : History) : Type 0 where
  pub more : List Point
  pub table : h'.table ≡ h.table ++ more
  pub samples : h'.samples ≡ h.samples ++ replicate (length more) []

-- a sample behind those of a point
pub record AddsSample (h h' : History) (p : ℕ) (values : List Value) : Type 0 where
  pub table : h'.table ≡ h.table
  pub samples : h'.samples ≡ own_samples_with h.samples p values

-- what a block does is what it adds
abbrev pub Adds : History → Option Effect → History → Type 0
Adds h None h' = AddsNothing h h'
Adds h (Some Nothing) h' = AddsNothing h h'
Adds h (Some Declares) h' = AddsPoints h h'
Adds h (Some (Samples p line values)) h' = AddsSample h h' p values

-- A block does nothing but what it says, and the grammar stays.
abbrev pub EffectsAreAdded : Type 0
EffectsAreAdded =
    (ignores : Bool) (h : History) (ls : List Line) (close : Option ℕ) (t : Taken) → effect_of ignores h ls close ≡ Ok t
    → Adds h t.effect t.history × (t.history.grammar ≡ h.grammar)
