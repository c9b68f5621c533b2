-- Edges into a point, from children of less depth.
use Rattle.std.specs.Prelude.{◌≡◌, ◌<◌, ◌==◌, ℕ, true, All, Contains, List, filter, slice_index_or}
use Rattle.std.proofs.Common.{subst}
use Rattle.std.proofs.lemmas.List.Elements.{All-contains_itself, All-filter, filter_passes}
use Rattle.dk_graph.specs.Graphs.{ParentsAreDeeper, depth_of, edges, edges_into}
use Rattle.dk_graph.specs.declared.nodes.Edge.{Edge}
use Rattle.dk_graph.specs.declared.nodes.Node.{Node}
use Rattle.dk_graph.proofs.Heights.{eqb_true}

-- ---- of the edges into a point
-- an edge into a point, from a child of less depth
abbrev pub IsFromBelow : List Node → ℕ → Edge → Type 0
IsFromBelow ns p e = (e.parent.0 ≡ p) × (depth_of ns e.child.0 < depth_of ns p)

from-below : (ns : List Node) → ParentsAreDeeper ns → (p : ℕ) (e : Edge) → Contains (edges ns) e → (e.parent.0 == p) ≡ true → IsFromBelow ns p e
from-below ns deep p e there is =
    let same : e.parent.0 ≡ p = eqb_true e.parent.0 p is in
    (same, subst (λ q. depth_of ns e.child.0 < depth_of ns q) same (deep e there))

pub into-from-below : (ns : List Node) → ParentsAreDeeper ns → (p : ℕ) → All (IsFromBelow ns p) (edges_into ns p)
unfolding edges_into
into-from-below ns deep p k d lt =
    let here : Edge = slice_index_or (filter (λ e. e.parent.0 == p) (edges ns)) k d in
    from-below ns deep p here
    (All-filter (λ (e : Edge). e.parent.0 == p) (Contains (edges ns)) (edges ns) (All-contains_itself (edges ns)) k d lt)
    (filter_passes (λ (e : Edge). e.parent.0 == p) (edges ns) k d lt)
