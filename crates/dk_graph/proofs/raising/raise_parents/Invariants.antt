use Rattle.std.proofs.Common.{◌≡◌, drop}
use Rattle.dk_graph.specs.Raising.{raised}
use Rattle.dk_graph.proofs.raising.raise_parents.Given as goal

abbrev pub invariant-loop-edge : goal.invariant-loop-edge
invariant-loop-edge l = raised l.limit l.child (drop l.edge-index l.edges) (record { ranks = l.ranks; queue = l.queue.items })
    ≡ raised l.limit l.child l.edges (record { ranks = l.initial.ranks; queue = l.initial.queue.items })
