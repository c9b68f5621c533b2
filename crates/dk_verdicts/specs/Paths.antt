-- The paths along which records reach points.
use Rattle.std.specs.Prelude.{◌==◌, ◌++◌, ℕ, zero, suc, List, [], ◌∷◌, flat_map, map, if◌then◌else◌}
use Rattle.dk_base.specs.declared.values.Value.{Value}
use Rattle.dk_graph.specs.Graphs.{depth_of, edges_into}
use Rattle.dk_graph.specs.declared.nodes.Edge.{Edge}
use Rattle.dk_graph.specs.declared.nodes.Node.{Node}
use Rattle.dk_hierarchy.specs.Samples.{mapped_sample, partners_of}
use Rattle.dk_points.specs.Table.{Point}

-- the path without an edge, from a point to itself
abbrev pub empty_path : ℕ → ℕ → List (List Edge)
empty_path p q = if p == q then [] ∷ [] else []

-- the paths of at most n edges from a point to another
abbrev pub paths_within : ℕ → List Node → ℕ → ℕ → List (List Edge)
paths_within zero ns p q = empty_path p q
paths_within (suc n) ns p q =
    empty_path p q ++ flat_map (λ e. map (λ path. path ++ e ∷ []) (paths_within n ns p e.child.0)) (edges_into ns q)

-- The paths from a point to another. None has more edges than the depth of the other.
abbrev pub paths_to : List Node → ℕ → ℕ → List (List Edge)
paths_to ns p q = paths_within (depth_of ns q) ns p q

-- a sample mapped over each edge of a path
abbrev pub along : List Point → List Edge → List Value → List Value
along ps [] sample = sample
along ps (e ∷ path) sample = along ps path (mapped_sample (partners_of ps e) sample)
