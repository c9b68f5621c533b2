use Rattle.dk_recorders.proofs.Courses.{turns_behind}
use Rattle.dk_recorders.proofs.laws.turns_do_not_matter.Goals as goal

pub returns : goal.returns
returns c = turns_behind
