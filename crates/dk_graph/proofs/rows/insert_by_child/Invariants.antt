use Rattle.std.proofs.Common.{◌≡◌, length, drop}
use Rattle.dk_graph.specs.Rows.{inserted}
use Rattle.dk_graph.proofs.rows.insert_by_child.Given as goal

abbrev pub invariant-loop-edge : goal.invariant-loop-edge
invariant-loop-edge l = (length l.from.items ≡ length l.initial.from.items) × (inserted l.from.items (drop l.edge-index l.edges) ≡ inserted l.initial.from.items l.edges)
