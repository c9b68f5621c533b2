use Rattle.dk_recorders.proofs.Courses.{order_of_blocks}
use Rattle.dk_recorders.proofs.laws.order_of_blocks_does_not_matter.Goals as goal

pub returns : goal.returns
returns c = order_of_blocks
