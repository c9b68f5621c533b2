-- Graphs of named points: a point has links, each the name of a parent, and a link is an edge once a point has that name.
use Rattle.std.specs.Prelude.{◌≡◌, ℕ, zero, suc, ◌+◌, ◌<◌, ◌==◌, ◌||◌, Bool, true, false, slice_index, nat_le, max, List, [], ◌∷◌, length, map, filter, filter_map, flat_map, Contains, Option, Some, None, option_map, if◌then◌else◌}
use Rattle.std.specs.List.{enumerate_from}
use Rattle.dk_base.specs.declared.kinds.PointId.{PointId}
use Rattle.dk_graph.specs.Names.{place_of}
use Rattle.dk_graph.specs.declared.nodes.Edge.{Edge}
use Rattle.dk_graph.specs.declared.nodes.Node.{Node}

-- A point is named by its place.
abbrev pub place_in : PointId → ℕ
place_in p = p.0

-- the names of the points
abbrev pub node_names : List Node → List (List ℕ)
node_names ns = map (λ n. n.name) ns

-- A link: the point that has it, its place among that point's links, and the name of the parent.
pub record Link : Type 0 where
  pub child : ℕ
  pub number : ℕ
  pub parent : List ℕ

-- the links of a point that stands at a place, from the names of its parents
abbrev pub links_to_parents : ℕ → List (List ℕ) → List Link
links_to_parents place parents = map (λ l. record { child = place; number = l.0; parent = l.1 }) (enumerate_from 0 parents)

abbrev pub links_at : ℕ × Node → List Link
links_at p = links_to_parents p.0 p.1.links

-- All links, by child and then by number.
unfoldable pub links : List Node → List Link
links ns = flat_map links_at (enumerate_from 0 ns)

-- A link is an edge if one of the points has the parent's name.
abbrev pub edge_of : List (List ℕ) → Link → Option Edge
edge_of all l =
    option_map (λ j. record { child = record { 0 = l.child }; parent = record { 0 = j }; number = l.number }) (place_of all l.parent)

-- All edges, by child and then by number.
unfoldable pub edges : List Node → List Edge
edges ns = filter_map (edge_of (node_names ns)) (links ns)

-- The edges from a child to its parents.
unfoldable pub edges_from : List Node → ℕ → List Edge
edges_from ns child = filter (λ e. e.child.0 == child) (edges ns)

-- The edges into a parent from its children.
unfoldable pub edges_into : List Node → ℕ → List Edge
edges_into ns parent = filter (λ e. e.parent.0 == parent) (edges ns)

-- the most edges on a path that ends in q with one of these, if `before` says the most on a path that ends in its child
abbrev pub highest : (ℕ → ℕ) → ℕ → List Edge → ℕ
highest before q [] = 0
highest before q (e ∷ es) = if e.parent.0 == q then max (before e.child.0 + 1) (highest before q es) else highest before q es

-- the most edges, and at most n, on a path that ends in q
abbrev pub height : List Edge → ℕ → ℕ → ℕ
height es zero q = 0
height es (suc n) q = highest (height es n) q es

-- The number of edges on the longest path that ends in q. It has fewer edges than there are points, unless there is a cycle.
unfoldable pub depth_of : List Node → ℕ → ℕ
depth_of ns q = height (edges ns) (length ns) q

-- whether a test passes at a number below n
abbrev pub some_below : (ℕ → Bool) → ℕ → Bool
some_below test zero = false
some_below test (suc n) = test n || some_below test n

-- Some path has as many edges as there are points: so it comes to a point twice.
unfoldable pub has_cycle : List Node → Bool
has_cycle ns = some_below (λ q. nat_le (length ns) (depth_of ns q)) (length ns)

-- These points, which have no cycle; or none, since they have one.
abbrev pub GraphGrows : Option (List Node) → List Node → Type 0
GraphGrows (Some g) ns = (g ≡ ns) × (has_cycle ns ≡ false)
GraphGrows None ns = has_cycle ns ≡ true

-- The depth of a child is less than that of its parent.
abbrev pub ParentsAreDeeper : List Node → Type 0
ParentsAreDeeper ns = (e : Edge) → Contains (edges ns) e → depth_of ns e.child.0 < depth_of ns e.parent.0

-- a number for each point, of which each parent's is greater than its children's
pub record AreRanks (ns : List Node) (ranks : List ℕ) : Type 0 where
  pub all : length ranks ≡ length ns
  pub climb : (e : Edge) → Contains (edges ns) e → slice_index ranks e.child.0 < slice_index ranks e.parent.0
