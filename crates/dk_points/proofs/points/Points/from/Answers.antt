use Rattle.std.proofs.Common.{◌∙◌, length, ap, arith}
use Rattle.dk_graph.specs.Graphs.{edges_from}
use Rattle.dk_points.proofs.EndsOfEdges.{edges-from}
use Rattle.dk_points.proofs.Nodes.{length-nodes}
use Rattle.dk_points.specs.Links.{nodes}
use Rattle.dk_points.proofs.points.Points.from.Goals as goal

pub edges_from-requires : goal.edges_from-requires
edges_from-requires c = omega (arith, c.requires, ap length (c.self.invariant.joined ∙ ap nodes c.self.view_is), length-nodes c.args.self.now)

pub returns-clause-edges : goal.returns-clause-edges
returns-clause-edges c = c.edges_from.ensures ∙ ap (λ ns. edges_from ns c.args.p.0) (c.self.invariant.joined ∙ ap nodes c.self.view_is)

pub returns-clause-ends : goal.returns-clause-ends
returns-clause-ends c =
    rw (c.edges_from.ensures) (edges-from c.self.inside.graph (length c.args.self.now) c.args.p.0 (ap length (c.self.invariant.joined ∙ ap nodes c.self.view_is) ∙ length-nodes c.args.self.now))
