use Rattle.std.proofs.Common.{◌+◌, length}
use Rattle.dk_graph.specs.Graphs.{edges}
use Rattle.dk_graph.specs.Raising.{first_rank, IsRising}
use Rattle.dk_graph.proofs.Steps.{to_do}
use Rattle.dk_graph.proofs.raising.raise_all.Given as goal

abbrev pub invariant-loop-child : goal.invariant-loop-child
invariant-loop-child l = IsRising (length l.nodes) (edges l.nodes) (record { ranks = l.ranks; queue = l.queue.items })

abbrev pub decreases-loop-child : goal.decreases-loop-child
decreases-loop-child l = to_do (first_rank + length l.nodes) (record { ranks = l.ranks; queue = l.queue.items })
