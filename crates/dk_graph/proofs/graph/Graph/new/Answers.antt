use Rattle.dk_graph.proofs.Bounds.{ranks-nothing}
use Rattle.dk_graph.proofs.graph.Graph.new.Goals as goal

pub invariant_of-result : goal.invariant_of-result
invariant_of-result c = rw (c.new.ensures, c.new-2.ensures.items) ranks-nothing
