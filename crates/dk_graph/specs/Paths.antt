-- Paths along edges, and what depths and cycles come to in their words.
use Rattle.std.specs.Prelude.{◌≡◌, ℕ, ◌<◌, ◌≤◌, List, [], ◌∷◌, length, Contains, true, false}
use Rattle.dk_graph.specs.Graphs.{edges, depth_of, has_cycle}
use Rattle.dk_graph.specs.declared.nodes.Edge.{Edge}
use Rattle.dk_graph.specs.declared.nodes.Node.{Node}

-- A path goes from p to q along edges, one after another, each of them one of these.
abbrev pub IsPath : List Edge → ℕ → List Edge → ℕ → Type 0
IsPath es p [] q = p ≡ q
IsPath es p (e ∷ path) q = Contains es e × (e.child.0 ≡ p) × IsPath es e.parent.0 path q

-- some path of one edge or more leads from a point to itself
abbrev pub HasPathBack : List Edge → Type 0
HasPathBack es = (p : ℕ) × (path : List Edge) × (0 < length path) × IsPath es p path p

-- There is a cycle exactly where a path leads from a point to itself.
pub record HasCycleLaw (ns : List Node) : Type 0 where
  pub back : has_cycle ns ≡ true → HasPathBack (edges ns)
  pub cycle : HasPathBack (edges ns) → has_cycle ns ≡ true

abbrev pub CycleIsPathBack : Type 0
CycleIsPathBack = (ns : List Node) → HasCycleLaw ns

-- so many edges has the longest path that ends in q
pub record IsLongest (es : List Edge) (q d : ℕ) : Type 0 where
  pub reached : (p : ℕ) × (path : List Edge) × IsPath es p path q × (length path ≡ d)
  pub longest : (p : ℕ) (path : List Edge) → IsPath es p path q → length path ≤ d

-- Without a cycle the depth of a point is the number of edges on the longest path that ends in it.
abbrev pub DepthIsLongestPath : Type 0
DepthIsLongestPath = (ns : List Node) → has_cycle ns ≡ false → (q : ℕ) → q < length ns → IsLongest (edges ns) q (depth_of ns q)
