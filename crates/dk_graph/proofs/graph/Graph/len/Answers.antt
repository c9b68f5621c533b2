use Rattle.dk_graph.proofs.Ranked.{are-ranks, no-cycle}
use Rattle.dk_graph.proofs.graph.Graph.len.Goals as goal

pub returns-clause-acyclic : goal.returns-clause-acyclic
returns-clause-acyclic c = rw (← c.self.view_is) (no-cycle c.self.inside.edges c.self.inside.ranks.items (are-ranks c.self.inside.edges c.self.inside.ranks.items c.self.invariant))
