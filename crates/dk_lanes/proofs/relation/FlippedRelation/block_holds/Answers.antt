use Rattle.std.proofs.Common.{◌∙◌}
use Rattle.dk_lanes.proofs.LaneLemmas.{all_flipped}
use Rattle.dk_lanes.proofs.relation.FlippedRelation.block_holds.Goals as goal

pub returns : goal.returns
returns g c = c.block_holds.ensures ∙ all_flipped g.R.Relation.related c.args.left.now c.args.right.now
