use Rattle.dk_suppress.proofs.Sound.{suppressed_hold}
use Rattle.dk_suppress.proofs.laws.suppressed_instances_hold.Goals as goal

pub returns : goal.returns
returns c = suppressed_hold
