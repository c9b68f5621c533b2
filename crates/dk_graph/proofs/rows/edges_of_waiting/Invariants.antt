use Rattle.std.proofs.Common.{◌≡◌, ◌++◌, map, drop}
use Rattle.dk_graph.specs.Rows.{edge_to}
use Rattle.dk_graph.proofs.rows.edges_of_waiting.Given as goal

abbrev pub invariant-loop-link : goal.invariant-loop-link
invariant-loop-link l = l.row ++ map (edge_to l.parent) (drop l.link-index l.links) ≡ map (edge_to l.parent) l.links
