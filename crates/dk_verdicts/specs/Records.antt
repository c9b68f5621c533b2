-- Sample records, and the samples with which they reach points.
use Rattle.std.specs.Prelude.{ℕ, List, [], ◌∷◌, ◌++◌, flat_map, replicate}
use Rattle.dk_base.specs.declared.values.Value.{Value}
use Rattle.dk_hierarchy.specs.Samples.{OwnSamples, samples_of}
use Rattle.dk_points.specs.Table.{Point}

-- A sample record.
pub record Record : Type 0 where
  -- the points that the blocks before it declare
  pub table : List Point
  -- the place of its file among the files, and its first line there
  pub file : ℕ
  pub line : ℕ
  -- the place of its point, and the values of that point's base variables
  pub point : ℕ
  pub values : List Value

-- the own samples of all points, where the point at this place has this one and the others have none
abbrev pub only : ℕ → List Value → OwnSamples
only p values = replicate p [] ++ (values ∷ []) ∷ []

-- The samples with which a record reaches a point: one for each path of edges from the record's own point to that one in the record's
-- table, the path without an edge included, mapped along the path. They are the samples that the point would have if there were no other
-- record.
abbrev pub reaching : ℕ → Record → List (List Value)
reaching q r = samples_of r.table (only r.point r.values) q

-- those of all records, in their order
abbrev pub reaching_all : ℕ → List Record → List (List Value)
reaching_all q rs = flat_map (reaching q) rs
