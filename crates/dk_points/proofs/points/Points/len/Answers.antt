use Rattle.std.proofs.Common.{◌∙◌, length, ap, arith}
use Rattle.dk_points.proofs.Keeping.{length-seen}
use Rattle.dk_points.proofs.Nodes.{length-nodes}
use Rattle.dk_points.specs.Links.{nodes}
use Rattle.dk_points.proofs.points.Points.len.Goals as goal

pub returns-clause-len : goal.returns-clause-len
returns-clause-len c = c.len.ensures.len ∙ ap length (c.self.invariant.joined ∙ ap nodes c.self.view_is) ∙ length-nodes c.args.self.now

pub returns-clause-few : goal.returns-clause-few
returns-clause-few c = omega (arith, c.self.invariant.few, length-seen c.self.inside.places, ap length c.self.view_is)
