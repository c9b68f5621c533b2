use Rattle.std.proofs.Common.{◌≡◌, drop}
use Rattle.std.specs.List.{list_all}
use Rattle.dk_write.specs.Writable.{is_told_edge}
use Rattle.dk_write.proofs.writable.are_told_edges.Given as goal

abbrev pub invariant-loop-edge : goal.invariant-loop-edge
invariant-loop-edge l = list_all is_told_edge (drop l.edge-index l.edges) ≡ list_all is_told_edge l.edges
