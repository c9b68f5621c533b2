use Rattle.dk_recorders.proofs.Telling.{order_of_own_samples}
use Rattle.dk_recorders.proofs.laws.order_of_own_samples_does_not_matter.Goals as goal

pub returns : goal.returns
returns c = order_of_own_samples
