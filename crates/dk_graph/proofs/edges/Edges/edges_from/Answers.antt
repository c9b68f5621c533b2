use Rattle.std.proofs.Common.{◌∙◌, length, ap, arith}
use Rattle.dk_graph.proofs.Orders.{row-at}
use Rattle.dk_graph.proofs.edges.Edges.edges_from.Goals as goal

pub returns : goal.returns
returns c =
    let i = c.self.inside.parts in
    rw (← c.self.view_is) (c.as_slice.ensures ∙ c.index.ensures
    ∙ row-at i.from.items c.args.p.0 c.index.result.now (omega (arith, c.requires, c.self.invariant.from_all, ap length c.self.view_is))
    ∙ c.self.invariant.from_are c.args.p.0)
