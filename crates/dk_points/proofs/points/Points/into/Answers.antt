use Rattle.std.proofs.Common.{◌∙◌, length, ap, arith}
use Rattle.dk_graph.specs.Graphs.{edges_into}
use Rattle.dk_points.proofs.EndsOfEdges.{edges-into}
use Rattle.dk_points.proofs.Nodes.{length-nodes}
use Rattle.dk_points.specs.Links.{nodes}
use Rattle.dk_points.proofs.points.Points.into.Goals as goal

pub edges_into-requires : goal.edges_into-requires
edges_into-requires c = omega (arith, c.requires, ap length (c.self.invariant.joined ∙ ap nodes c.self.view_is), length-nodes c.args.self.now)

pub returns-clause-edges : goal.returns-clause-edges
returns-clause-edges c = c.edges_into.ensures ∙ ap (λ ns. edges_into ns c.args.p.0) (c.self.invariant.joined ∙ ap nodes c.self.view_is)

pub returns-clause-ends : goal.returns-clause-ends
returns-clause-ends c =
    rw (c.edges_into.ensures) (edges-into c.self.inside.graph (length c.args.self.now) c.args.p.0 (ap length (c.self.invariant.joined ∙ ap nodes c.self.view_is) ∙ length-nodes c.args.self.now))
