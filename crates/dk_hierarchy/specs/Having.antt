-- Which points have samples.
use Rattle.std.specs.Prelude.{ℕ, Bool, true, false, not, nat_lt, List, [], ◌∷◌, ◌++◌, fold, if◌then◌else◌, length, map, slice_index_or, slice_set}
use Rattle.std.specs.List.{range_with_len}
use Rattle.dk_base.specs.Pieces.{is_empty}
use Rattle.dk_engine.specs.Reading.Levels.{Whole}
use Rattle.dk_graph.specs.declared.nodes.Edge.{Edge}
use Rattle.dk_points.specs.Table.{Point}
use Rattle.dk_hierarchy.specs.Samples.{OwnSamples, samples_of}

-- a point has samples, its own or its children's
abbrev pub has_samples : List Point → OwnSamples → ℕ → Bool
has_samples ps own p = not (is_empty (samples_of ps own p))

-- which points of a table have some, in order
abbrev pub have_samples : List Point → OwnSamples → List Bool
have_samples ps own = map (has_samples ps own) (range_with_len 0 (length ps))

-- ---- marks
-- an engine was fed
abbrev pub keeps_some : Whole → Bool
keeps_some engine = nat_lt 0 engine.kept.samples

-- the marks of points, and the points whose parents are still to be marked
pub record Marking : Type 0 where
  pub marks : List Bool
  pub waiting : List ℕ

-- with a point marked, which waits unless it was marked before
abbrev pub marked : Marking → ℕ → Marking
marked s p =
    if slice_index_or s.marks p false then s
    else record { marks = slice_set s.marks p true; waiting = s.waiting ++ p ∷ [] }

-- with the parents of these edges marked
abbrev pub marked_all : List Edge → Marking → Marking
marked_all es s = fold (λ s e. marked s e.parent.0) s es
