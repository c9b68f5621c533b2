use Rattle.std.proofs.Common.{◌≡◌, drop}
use Rattle.std.specs.List.{list_all}
use Rattle.dk_state.specs.Given.{is_given_edge}
use Rattle.dk_state.proofs.given.are_edges.Given as goal

abbrev pub invariant-loop-edge : goal.invariant-loop-edge
invariant-loop-edge l = list_all (is_given_edge) (drop l.edge-index l.edges) ≡ list_all (is_given_edge) l.edges
