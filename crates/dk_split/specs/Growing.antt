-- What blocks do to the splits of points.
use Rattle.std.specs.Prelude.{◌≡◌, ◌≤◌, ◌++◌, ◌∷◌, ℕ, List, [], Some, length, slice_get, slice_set}
use Rattle.dk_base.specs.Values.{values_of}
use Rattle.dk_base.specs.declared.values.Value.{Value}
use Rattle.dk_events.specs.declared.event.Event.{Event}
use Rattle.dk_events.specs.declared.event.Event.TheVariants as event
use Rattle.dk_implications.specs.Standing.{Engines, StandFor}
use Rattle.dk_points.specs.Table.{Point}
use Rattle.dk_split.specs.Standing.{AreSplitsOf, IsSplitAt}

-- the split of the point at a place, without samples
pub record IsNewAt (ps : List Point) (p : ℕ) (split : Engines) : Type 0 where
  pub at : IsSplitAt ps p split
  pub stands : StandFor split []

-- the splits of all points of the table, these first, and behind them those without samples
pub record AreGrown (ps : List Point) (splits all : List Engines) : Type 0 where
  pub long : length all ≡ length ps
  pub more : List Engines
  pub grows : all ≡ splits ++ more
  pub new : (i : ℕ) (split : Engines) → length splits ≤ i → slice_get all i ≡ Some split → IsNewAt ps i split

-- one of the splits has a sample more
pub record IsFed (splits all : List Engines) (p : ℕ) (sample : List Value) : Type 0 where
  pub old : Engines
  pub there : slice_get splits p ≡ Some old
  pub new : Engines
  pub is : all ≡ slice_set splits p new
  pub infos : new.whole.infos ≡ old.whole.infos
  pub by_grammar : new.whole.grammar ≡ old.whole.grammar
  pub fed : (samples : List (List Value)) → StandFor old samples → StandFor new (samples ++ sample ∷ [])

-- the splits are those of the points before the block
abbrev pub AreKeptUp : List Point → Event → List Engines → Type 0
AreKeptUp ps (event.Sample point line values) splits = AreSplitsOf ps splits
AreKeptUp ps event splits = length splits ≤ length ps

-- what a block does to the splits
abbrev pub TakesEvent : List Point → Event → List Engines → List Engines → Type 0
TakesEvent ps (event.Sample point line values) splits all = IsFed splits all point.0 (values_of values.now)
TakesEvent ps event splits all = AreGrown ps splits all
