use Rattle.std.proofs.Common.{◌∙◌, length, slice_get, sym, ap, arith}
use Rattle.dk_graph.specs.Graphs.{node_names as graph_names}
use Rattle.dk_points.proofs.Nodes.{length-nodes, names-nodes}
use Rattle.dk_points.specs.Links.{nodes}
use Rattle.dk_points.proofs.points.Points.name.Goals as goal

pub name-requires : goal.name-requires
name-requires c = omega (arith, c.requires, ap length (c.self.invariant.joined ∙ ap nodes c.self.view_is), length-nodes c.args.self.now)

pub returns : goal.returns
returns c = ap (λ all. slice_get all c.args.p.0) (sym (ap graph_names (c.self.invariant.joined ∙ ap nodes c.self.view_is) ∙ names-nodes c.args.self.now)) ∙ c.name.ensures
