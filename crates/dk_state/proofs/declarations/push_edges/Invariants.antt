use Rattle.std.proofs.Common.{◌≡◌, ◌++◌, take}
use Rattle.std.specs.List.{flat_map}
use Rattle.dk_state.specs.Declarations.{edge_line}
use Rattle.dk_state.proofs.declarations.push_edges.Given as goal

abbrev pub invariant-loop-edge : goal.invariant-loop-edge
invariant-loop-edge l = l.text ≡ l.fn.text ++ flat_map edge_line (take l.edge-index l.edges)
