use Rattle.dk_lanes.proofs.LaneLemmas.{block_wraps}
use Rattle.dk_lanes.proofs.blocks.block_wraps_to.Goals as goal

pub returns-clause-wraps : goal.returns-clause-wraps
returns-clause-wraps c = block_wraps c.args.k c.ranges.k c.args.left.now _ _ _ _ c.args.right.now _ _ _ _ c.of-l.ensures c.of-r.ensures
