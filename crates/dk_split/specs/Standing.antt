-- What the splits of points stand for.
use Rattle.std.specs.Prelude.{◌≡◌, ℕ, List, length, slice_get, Some}
use Rattle.dk_base.specs.declared.values.Value.{Value}
use Rattle.dk_implications.specs.Standing.{Engines, StandFor}
use Rattle.dk_hierarchy.specs.Samples.{OwnSamples, all_vars_of, own_samples_of}
use Rattle.dk_points.specs.Table.{Point}
use Rattle.dk_template.specs.declared.grammar.Grammar.TheVariants.{Two}
use Rattle.dk_split.specs.declared.splits.Splits.{Splits}

-- the engines of a split are over the variables of the point at a place, by the second grammar
pub record IsSplitAt (ps : List Point) (p : ℕ) (split : Engines) : Type 0 where
  pub infos : split.whole.infos ≡ all_vars_of ps p
  pub by_grammar : split.whole.grammar ≡ Two

-- The splits are those of the table's points, in order.
pub record AreSplitsOf (ps : List Point) (splits : List Engines) : Type 0 where
  pub long : length splits ≡ length ps
  pub each : (i : ℕ) (split : Engines) → slice_get splits i ≡ Some split → IsSplitAt ps i split

-- Each split stands for the samples of the point at its place.
abbrev pub SplitsStandFor : List Engines → (ℕ → List (List Value)) → Type 0
SplitsStandFor splits samples = (i : ℕ) (split : Engines) → slice_get splits i ≡ Some split → StandFor split (samples i)

-- There is a split for each point, which stands for the point's own samples, with derived values.
pub record StandsFor (s : Splits) (ps : List Point) (samples : OwnSamples) : Type 0 where
  pub long : length s.splits.items ≡ length ps
  pub many : length samples ≡ length ps
  pub splits : SplitsStandFor s.splits.items (own_samples_of ps samples)
