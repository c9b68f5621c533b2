use Rattle.dk_lanes.proofs.LaneLemmas.{block_member}
use Rattle.dk_lanes.proofs.blocks.block_has.Goals as goal

pub returns : goal.returns
returns c = block_member c.args.k c.ranges.k c.args.block.now _ _ _ _ c.told-block c.of-l.ensures
