-- Going down from a point: which ways are done, and which are still to be followed.
use Rattle.std.specs.Prelude.{◌≡◌, ◌==◌, ◌<◌, ℕ, All, List, [], ◌∷◌, ◌++◌, flat_map, fold, if◌then◌else◌, length, map, nat_lt, slice_index, unwrap_or, Option, Some}
use Rattle.std.specs.BTreeMap.{is_at}
use Rattle.std.specs.List.{range_with_len}
use Rattle.std.specs.Map.{lookup}
use Rattle.std.specs.Ordering.{nat_cmp}
use Rattle.dk_base.specs.Shapes.{var}
use Rattle.dk_base.specs.declared.kinds.VarId.{VarId}
use Rattle.dk_graph.specs.Graphs.{edges_into}
use Rattle.dk_points.specs.Links.{nodes}
use Rattle.dk_points.specs.Table.{Point}
use Rattle.dk_hierarchy.specs.Edges.{ArePartners}
use Rattle.dk_hierarchy.specs.Samples.{OwnSamples, all_vars_of, own_samples_of, samples_of}
use Rattle.dk_hierarchy.specs.Ways.{SamplesTellTheSame, samples_through_all, way_below, with_way}
use Rattle.dk_hierarchy.specs.declared.way.Way.{Way}

-- a variable is its own partner on the path without an edge
abbrev pub own_partners : ℕ → List (Option VarId)
own_partners n = map (λ v. Some (var v)) (range_with_len 0 n)

-- the way from a point of so many variables to itself
abbrev pub first_way : ℕ → ℕ → Way
first_way p number = record { point = record { 0 = p }; partners = own_partners number; paths = 1 }

-- a way from the point p, by one path or more
pub record IsWayDown (ps : List Point) (p : ℕ) (way : Way) : Type 0 where
  pub within : way.point.0 < length ps
  pub partners : ArePartners (all_vars_of ps p) (all_vars_of ps way.point.0) way.partners
  pub some : 0 < way.paths

-- ---- ways by the ranks of their lower points
-- Levels stand by rank, ascending: a rank, and the ways to points of that rank.
abbrev pub AreLevels : List ℕ → List (ℕ × List Way) → Type 0
AreLevels ranks levels = All (λ level. All (λ way. slice_index ranks way.point.0 ≡ level.0) level.1) levels

-- the ways of all levels
abbrev pub ways_in : List (ℕ × List Way) → List Way
ways_in levels = flat_map (λ level. level.1) levels

-- the ways to points of a rank
abbrev pub ways_at : List (ℕ × List Way) → ℕ → List Way
ways_at levels rank = unwrap_or (lookup (is_at (nat_cmp rank)) levels) []

-- all levels stand below a rank
abbrev pub AreBelow : ℕ → List (ℕ × List Way) → Type 0
AreBelow rank levels = All (λ level. level.0 < rank) levels

-- the levels, with a way more at a rank
abbrev pub with_way_at : List (ℕ × List Way) → ℕ → Way → List (ℕ × List Way)
with_way_at [] rank way = (rank, way ∷ []) ∷ []
with_way_at (level ∷ levels) rank way =
    if nat_lt rank level.0 then (rank, way ∷ []) ∷ level ∷ levels
    else if rank == level.0 then (rank, with_way level.1 way) ∷ levels
    else level ∷ with_way_at levels rank way

-- and with the ways that go on from a way, down each edge into its lower point
abbrev pub with_ways_below : List Point → List ℕ → List (ℕ × List Way) → Way → List (ℕ × List Way)
with_ways_below ps ranks levels way =
    fold (λ ls e. with_way_at ls (slice_index ranks e.child.0) (way_below ps way e)) levels (edges_into (nodes ps) way.point.0)

-- ---- going down
-- The own samples of the points that some ways lead to, and all samples of those that the ways lead to that are left, are the samples
-- of the point p.
pub record IsDescent (ps : List Point) (p : ℕ) (ways left : List Way) : Type 0 where
  pub done : All (IsWayDown ps p) ways
  pub pending : All (IsWayDown ps p) left
  pub brings : (own : OwnSamples)
      → SamplesTellTheSame (samples_of ps own p)
      (samples_through_all (own_samples_of ps own) ways ++ samples_through_all (samples_of ps own) left)
