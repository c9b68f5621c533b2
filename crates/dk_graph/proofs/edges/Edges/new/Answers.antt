use Rattle.dk_graph.proofs.Bounds.{joined-nothing}
use Rattle.dk_graph.proofs.edges.Edges.new.Goals as goal

pub invariant_of-result : goal.invariant_of-result
invariant_of-result c = rw (c.new.ensures, c.new-2.ensures, c.new-3.ensures, c.new-4.ensures.items, c.new-5.ensures.items) joined-nothing
