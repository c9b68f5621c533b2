use Rattle.std.proofs.Common.{◌∙◌, length, ap, subst, arith}
use Rattle.dk_graph.specs.Graphs.{depth_of, ParentsAreDeeper}
use Rattle.dk_points.proofs.Nodes.{length-nodes}
use Rattle.dk_points.specs.Links.{nodes}
use Rattle.dk_points.proofs.points.Points.depth.Goals as goal

pub depth-requires : goal.depth-requires
depth-requires c = omega (arith, c.requires, ap length (c.self.invariant.joined ∙ ap nodes c.self.view_is), length-nodes c.args.self.now)

pub returns-clause-depth : goal.returns-clause-depth
returns-clause-depth c = c.depth.ensures.depth ∙ ap (λ ns. depth_of ns c.args.p.0) (c.self.invariant.joined ∙ ap nodes c.self.view_is)

pub returns-clause-parents : goal.returns-clause-parents
returns-clause-parents c = subst ParentsAreDeeper (c.self.invariant.joined ∙ ap nodes c.self.view_is) c.depth.ensures.parents
