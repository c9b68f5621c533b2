use Rattle.std.proofs.Common.{◌∙◌, ◌<◌, length, IfSome, ap, subst}
use Rattle.dk_graph.specs.Graphs.{node_names as graph_names}
use Rattle.dk_graph.specs.Names.{place_of}
use Rattle.dk_points.proofs.Nodes.{length-nodes, names-nodes}
use Rattle.dk_points.specs.Links.{nodes}
use Rattle.dk_points.proofs.points.Points.find_from.Goals as goal

pub returns-clause-place : goal.returns-clause-place
returns-clause-place c = c.find_from.ensures.place
    ∙ ap (λ all. place_of all c.args.name.now) (ap graph_names (c.self.invariant.joined ∙ ap nodes c.self.view_is) ∙ names-nodes c.args.self.now)

pub returns-clause-within : goal.returns-clause-within
returns-clause-within c =
    subst (λ n. IfSome c.find_from.result (λ p. p.0 < n)) (ap length (c.self.invariant.joined ∙ ap nodes c.self.view_is) ∙ length-nodes c.args.self.now) c.find_from.ensures.within
