use Rattle.std.proofs.Common.{rules}
use Rattle.dk_lanes.proofs.LaneLemmas.{read_in_lanes}
use Rattle.dk_lanes.proofs.blocks.Lanes.of.Goals as goal

pub returns : goal.returns
returns c = read_in_lanes c.args.block.now c.told-block (search rules) (search rules) (search rules) (search rules) (search rules) (search rules) (search rules) (search rules)
