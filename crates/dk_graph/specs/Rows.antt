-- Rows of edges, one for each point.
use Rattle.std.specs.Prelude.{◌≡◌, ◌<◌, Some, slice_get, ℕ, zero, suc, ◌+◌, List, [], ◌∷◌, ◌++◌, length, max, nat_lt, insert, if◌then◌else◌, slice_index, slice_set}
use Rattle.std.specs.List.{position_or_len}
use Rattle.dk_base.specs.declared.kinds.PointId.{PointId}
use Rattle.dk_graph.specs.declared.nodes.Edge.{Edge}
use Rattle.dk_graph.specs.declared.nodes.Waiting.{Waiting}

-- the row of a point, and none past the end
abbrev pub row : List (List Edge) → ℕ → List Edge
row [] q = []
row (es ∷ rest) zero = es
row (es ∷ rest) (suc q) = row rest q

-- a link that waited becomes an edge once its parent has come
abbrev pub edge_to : PointId → Waiting → Edge
edge_to parent w = record { child = w.child; parent = parent; number = w.number }

-- an edge goes before the first with a greater number
abbrev pub by_number : Edge → List Edge → List Edge
by_number e es = insert es (position_or_len (λ f. nat_lt e.number f.number) es) e

abbrev pub ChildrenBelow : ℕ → List Edge → Type 0
ChildrenBelow n es = (k : ℕ) (e : Edge) → slice_get es k ≡ Some e → e.child.0 < n

-- edges go to the rows of their children, by number
abbrev pub inserted : List (List Edge) → List Edge → List (List Edge)
inserted from [] = from
inserted from (e ∷ es) = inserted (slice_set from e.child.0 (by_number e (row from e.child.0))) es

-- edges go to the rows of their parents, last
abbrev pub spread : List (List Edge) → List Edge → List (List Edge)
spread into [] = into
spread into (e ∷ es) = spread (slice_set into e.parent.0 (row into e.parent.0 ++ e ∷ [])) es

-- one more than the greatest number of a child; children without a number do not count
abbrev pub above_children : List ℕ → List Edge → ℕ
above_children ds [] = 0
above_children ds (e ∷ es) =
    if nat_lt e.child.0 (length ds) then max (slice_index ds e.child.0 + 1) (above_children ds es) else above_children ds es
