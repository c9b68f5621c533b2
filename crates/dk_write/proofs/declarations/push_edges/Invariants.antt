use Rattle.std.proofs.Common.{◌≡◌, ◌++◌, map, take}
use Rattle.dk_lines.specs.Passing.{joined}
use Rattle.dk_write.specs.Declarations.{edge_line}
use Rattle.dk_write.proofs.declarations.push_edges.Given as goal

abbrev pub invariant-loop-edge : goal.invariant-loop-edge
invariant-loop-edge l = l.text ≡ l.fn.text ++ joined (map edge_line (take l.edge-index l.edges))
