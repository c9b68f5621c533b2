use Rattle.std.proofs.Common.{◌∙◌, length, sym, ap, arith}
use Rattle.dk_graph.specs.Graphs.{has_cycle, node_names as graph_names}
use Rattle.dk_graph.specs.Names.{place_of}
use Rattle.dk_points.proofs.MorePoints.{next-more}
use Rattle.dk_points.proofs.Nodes.{length-nodes, names-nodes}
use Rattle.dk_points.specs.Kept.{points_of_places}
use Rattle.dk_points.specs.Links.{nodes}
use Rattle.dk_points.specs.Table.{names}
use Rattle.dk_points.proofs.points.Points.with_one.Goals as goal

pub with_one-requires-clause-new : goal.with_one-requires-clause-new
with_one-requires-clause-new c =
    ap (λ all. place_of all c.args.added.node.name) (ap graph_names (c.self.invariant.joined ∙ ap nodes c.self.view_is) ∙ names-nodes c.args.self)
    ∙ c.requires.new

pub with_one-requires-clause-few : goal.with_one-requires-clause-few
with_one-requires-clause-few c = omega (arith, c.requires.few, ap length (c.self.invariant.joined ∙ ap nodes c.self.view_is), length-nodes c.args.self)

pub returns-in-None : goal.returns-in-None
returns-in-None c =
    let grown = next-more c.args.self c.self.inside.graph c.self.inside.places c.self.view_is c.self.invariant c.requires.few c.args.added c.requires.next in
    let told = rw (c.in-None.is) at c.in_ok-with_one.ensures in
    ap has_cycle (sym grown.are_nodes) ∙ told

pub returns-in-Some : goal.returns-in-Some
returns-in-Some c =
    let grown = next-more c.args.self c.self.inside.graph c.self.inside.places c.self.view_is c.self.invariant c.requires.few c.args.added c.requires.next in
    let told = rw (c.in-Some.is) at c.in_ok-with_one.ensures in
    (ap points_of_places c.in_ok-push.ensures.ok ∙ grown.sees, ap has_cycle (sym grown.are_nodes) ∙ told.1)

pub invariant_of-result : goal.invariant_of-result
invariant_of-result c =
    let grown = next-more c.args.self c.self.inside.graph c.self.inside.places c.self.view_is c.self.invariant c.requires.few c.args.added c.requires.next in
    let told = rw (c.in-Some.is) at c.in_ok-with_one.ensures in
    rw (told.0, c.in_ok-push.ensures.ok) grown.kept
