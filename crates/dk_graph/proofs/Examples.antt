-- Small graphs, computed.
use Rattle.std.proofs.Common.{◌≡◌, ℕ, true, false, List, [], ◌∷◌, refl}
use Rattle.std.specs.Prelude.{codes}
use Rattle.dk_graph.specs.Graphs.{links, edges, edges_from, edges_into, depth_of, has_cycle}
use Rattle.dk_graph.specs.Names.{place_of}
use Rattle.dk_graph.specs.declared.nodes.Edge.{Edge}
use Rattle.dk_graph.specs.declared.nodes.Node.{Node}

abbrev edge : ℕ → ℕ → ℕ → Edge
edge child parent number = record { child = record { 0 = child }; parent = record { 0 = parent }; number = number }

-- two links to one parent that comes late, and between them one to a parent that is missing
abbrev late : List Node
late = record { name = codes "c"; links = codes "p" ∷ codes "x" ∷ codes "p" ∷ [] } ∷ record { name = codes "p"; links = [] } ∷ []

late-from : edges_from late 0 ≡ edge 0 1 0 ∷ edge 0 1 2 ∷ []
unfolding links edges edges_from place_of
late-from = refl

late-into : edges_into late 1 ≡ edge 0 1 0 ∷ edge 0 1 2 ∷ []
unfolding links edges edges_into place_of
late-into = refl

late-depth : depth_of late 1 ≡ 1
unfolding links edges depth_of place_of
late-depth = refl

-- the longest path counts: from `b` to `t` there is one of one edge, and one of two through `m`
abbrev steps : List Node
steps = record { name = codes "t"; links = [] } ∷ record { name = codes "m"; links = codes "t" ∷ [] } ∷ record { name = codes "b"; links = codes "m" ∷ codes "t" ∷ [] } ∷ []

steps-into : edges_into steps 0 ≡ edge 1 0 0 ∷ edge 2 0 1 ∷ []
unfolding links edges edges_into place_of
steps-into = refl

steps-depth : depth_of steps 0 ≡ 2
unfolding links edges depth_of place_of
steps-depth = refl

steps-acyclic : has_cycle steps ≡ false
unfolding links edges depth_of has_cycle place_of
steps-acyclic = refl

-- an edge of a point to itself, and two points that are each other's parents
self-cycle : has_cycle (record { name = codes "a"; links = codes "a" ∷ [] } ∷ []) ≡ true
unfolding links edges depth_of has_cycle place_of
self-cycle = refl

two-cycle : has_cycle (record { name = codes "a"; links = codes "b" ∷ [] } ∷ record { name = codes "b"; links = codes "a" ∷ [] } ∷ []) ≡ true
unfolding links edges depth_of has_cycle place_of
two-cycle = refl
