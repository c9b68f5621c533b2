use Rattle.std.proofs.Common.{◌≡◌, max, drop}
use Rattle.dk_graph.specs.Rows.{above_children}
use Rattle.dk_graph.proofs.raising.number_above.Given as goal

abbrev pub invariant-loop-edge : goal.invariant-loop-edge
invariant-loop-edge l = max l.number (above_children l.numbers (drop l.edge-index l.children)) ≡ max l.least (above_children l.numbers l.children)
