use Rattle.std.proofs.Common.{subst, sym}
use Rattle.dk_graph.specs.Graphs.{AreRanks}
use Rattle.dk_graph.proofs.Ranked.{are-ranks, deeper, no-cycle}
use Rattle.dk_graph.proofs.graph.Graph.depth.Goals as goal

pub depth_by_paths-requires-clause-ranks : goal.depth_by_paths-requires-clause-ranks
depth_by_paths-requires-clause-ranks c =
    let i = c.self.inside in
    subst (AreRanks i.edges) (sym c.as_slice.ensures.value) (are-ranks i.edges i.ranks.items c.self.invariant)

pub returns-clause-parents : goal.returns-clause-parents
returns-clause-parents c =
    let i = c.self.inside in
    rw (← c.self.view_is) (deeper i.edges (no-cycle i.edges i.ranks.items (are-ranks i.edges i.ranks.items c.self.invariant)))
