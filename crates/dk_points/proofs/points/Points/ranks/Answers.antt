use Rattle.std.proofs.Common.{◌∙◌, ap, subst}
use Rattle.dk_graph.specs.Graphs.{AreRanks}
use Rattle.dk_points.specs.Links.{nodes}
use Rattle.dk_points.proofs.points.Points.ranks.Goals as goal

pub returns : goal.returns
returns c = subst (λ ns. AreRanks ns c.ranks.result.now) (c.self.invariant.joined ∙ ap nodes c.self.view_is) c.ranks.ensures
