use Rattle.std.proofs.Common.{◌∙◌, length, ap, arith}
use Rattle.dk_graph.proofs.Orders.{row-at}
use Rattle.dk_graph.proofs.edges.Edges.edges_into.Goals as goal

pub returns : goal.returns
returns c =
    let i = c.self.inside.parts in
    rw (← c.self.view_is) (c.as_slice.ensures ∙ c.index.ensures
    ∙ row-at i.into.items c.args.p.0 c.index.result.now (omega (arith, c.requires, c.self.invariant.into_all, ap length c.self.view_is))
    ∙ c.self.invariant.into_are c.args.p.0)
