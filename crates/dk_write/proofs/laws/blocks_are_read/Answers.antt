use Rattle.dk_write.proofs.Blocks.{blocks_read}
use Rattle.dk_write.proofs.laws.blocks_are_read.Goals as goal

pub returns : goal.returns
returns c = blocks_read
