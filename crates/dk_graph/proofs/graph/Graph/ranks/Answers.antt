use Rattle.std.proofs.Common.{subst, sym}
use Rattle.dk_graph.specs.Graphs.{AreRanks}
use Rattle.dk_graph.proofs.Ranked.{are-ranks}
use Rattle.dk_graph.proofs.graph.Graph.ranks.Goals as goal

pub returns : goal.returns
returns c =
    rw (← c.self.view_is) (subst (AreRanks c.self.inside.edges) (sym c.as_slice.ensures.value) (are-ranks c.self.inside.edges c.self.inside.ranks.items c.self.invariant))
