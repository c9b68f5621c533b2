use Rattle.std.proofs.Common.{◌≡◌, [], drop, map}
use Rattle.dk_state.specs.Given.{all_new, edge_key}
use Rattle.dk_state.proofs.given.edges_differ.Given as goal

abbrev pub invariant-loop-edge : goal.invariant-loop-edge
invariant-loop-edge l = all_new l.keys (map (edge_key) (drop l.edge-index l.edges)) ≡ all_new [] (map (edge_key) l.edges)
