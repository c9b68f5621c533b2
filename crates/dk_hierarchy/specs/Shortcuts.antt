-- Shortcuts past points whose samples all come by one edge.
use Rattle.std.specs.Prelude.{◌≡◌, ◌<◌, ◌≤◌, ◌++◌, ℕ, All, List, fold, length, map, slice_index, slice_index_or, Option, Some, None}
use Rattle.dk_base.specs.declared.values.Value.{Value}
use Rattle.dk_engine.specs.Reading.Levels.{Whole}
use Rattle.dk_graph.specs.Graphs.{AreRanks, edges_into}
use Rattle.dk_graph.specs.declared.nodes.Edge.{Edge}
use Rattle.dk_points.specs.Links.{nodes}
use Rattle.dk_points.specs.Table.{Point}
use Rattle.dk_hierarchy.specs.Descent.{IsWayDown, with_way_at}
use Rattle.dk_hierarchy.specs.Edges.{ArePartners}
use Rattle.dk_hierarchy.specs.Samples.{OwnSamples, all_vars_of, mapped_sample, own_samples_of, partners_of, samples_of}
use Rattle.dk_hierarchy.specs.Standing.{EnginesStandFor}
use Rattle.dk_hierarchy.specs.Ways.{SamplesTellTheSame, partners_below, samples_through_all, way_below}
use Rattle.dk_hierarchy.specs.declared.way.Way.{Way}

-- Past a point: the way by which those that come to it go on, where they pass it. Shortcuts stand in the order of a table's points.
abbrev pub shortcut_at : List (Option Way) → ℕ → Option Way
shortcut_at shortcuts p = slice_index_or shortcuts p None

-- ---- what they say
-- the samples of a point, by its shortcut
abbrev pub samples_by : (ℕ → List (List Value)) → ℕ → Option Way → List (List Value)
samples_by samples p None = samples p
samples_by samples p (Some rest) = map (mapped_sample rest.partners) (samples rest.point.0)

-- Where the points have these own samples, the samples of each point are what its shortcut says.
abbrev pub ShortcutsHold : List Point → OwnSamples → List (Option Way) → Type 0
ShortcutsHold ps own shortcuts = (p : ℕ) → samples_of ps own p ≡ samples_by (samples_of ps own) p (shortcut_at shortcuts p)

-- The way leads from the point p to one of no greater rank.
pub record LeadsDown (ps : List Point) (p : ℕ) (rest : Way) : Type 0 where
  pub within : rest.point.0 < length ps
  pub partners : ArePartners (all_vars_of ps p) (all_vars_of ps rest.point.0) rest.partners
  pub lower : (ranks : List ℕ) → AreRanks (nodes ps) ranks → slice_index ranks rest.point.0 ≤ slice_index ranks p

-- each does
abbrev pub LeadDown : List Point → List (Option Way) → Type 0
LeadDown ps shortcuts = (p : ℕ) (rest : Way) → shortcut_at shortcuts p ≡ Some rest → LeadsDown ps p rest

-- They lead down, and hold of the own samples that engines stand for.
pub record AreShortcuts (ps : List Point) (engines : List Whole) (shortcuts : List (Option Way)) : Type 0 where
  pub down : LeadDown ps shortcuts
  pub hold : (own : OwnSamples) → EnginesStandFor engines (own_samples_of ps own) → ShortcutsHold ps own shortcuts

-- ---- ways by shortcuts
-- the way down an edge alone
abbrev pub way_of_edge : List Point → Edge → Way
way_of_edge ps e = record { point = e.child; partners = partners_of ps e; paths = 1 }

-- a way, and then the rest of it
abbrev pub way_then : Way → Way → Way
way_then way rest = record { point = rest.point; partners = partners_below rest.partners way.partners; paths = way.paths }

-- a way, and then the shortcut of its lower point
abbrev pub shortened : Option Way → Way → Way
shortened None way = way
shortened (Some rest) way = way_then way rest

-- the way, and then down an edge, and on
abbrev pub way_on : List Point → List (Option Way) → Way → Edge → Way
way_on ps shortcuts way e = shortened (shortcut_at shortcuts e.child.0) (way_below ps way e)

-- the levels with a way more at the rank of its lower point
abbrev pub with_ranked : List ℕ → List (ℕ × List Way) → Way → List (ℕ × List Way)
with_ranked ranks levels way = with_way_at levels (slice_index ranks way.point.0) way

-- and with the ways that go on from a way
abbrev pub with_ways_on : List Point → List ℕ → List (Option Way) → List (ℕ × List Way) → Way → List (ℕ × List Way)
with_ways_on ps ranks shortcuts levels way =
    fold (λ ls e. with_ranked ranks ls (way_on ps shortcuts way e)) levels (edges_into (nodes ps) way.point.0)

-- ---- going down by shortcuts
-- As a descent without them, where they hold.
pub record IsDescentBy (ps : List Point) (shortcuts : List (Option Way)) (p : ℕ) (ways left : List Way) : Type 0 where
  pub done : All (IsWayDown ps p) ways
  pub pending : All (IsWayDown ps p) left
  pub brings : (own : OwnSamples) → ShortcutsHold ps own shortcuts
      → SamplesTellTheSame (samples_of ps own p)
      (samples_through_all (own_samples_of ps own) ways ++ samples_through_all (samples_of ps own) left)
