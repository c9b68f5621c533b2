use Rattle.dk_recorders.proofs.Spaced.{lines_read_as_blocks}
use Rattle.dk_recorders.proofs.laws.groups_are_read_as_blocks.Goals as goal

pub returns : goal.returns
returns c = lines_read_as_blocks
