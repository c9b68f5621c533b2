use Rattle.std.proofs.Common.{◌≡◌, length, drop}
use Rattle.dk_graph.specs.Rows.{spread}
use Rattle.dk_graph.proofs.rows.push_by_parent.Given as goal

abbrev pub invariant-loop-edge : goal.invariant-loop-edge
invariant-loop-edge l = (length l.into.items ≡ length l.initial.into.items) × (spread l.into.items (drop l.edge-index l.edges) ≡ spread l.initial.into.items l.edges)
