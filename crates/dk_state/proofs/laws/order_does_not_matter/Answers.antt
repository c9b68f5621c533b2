use Rattle.dk_state.proofs.SameTexts.{order_of_samples}
use Rattle.dk_state.proofs.laws.order_does_not_matter.Goals as goal

pub returns : goal.returns
returns c = order_of_samples
