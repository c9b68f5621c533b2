use Rattle.dk_engine.proofs.AnyOrder.{order_does_not_matter}
use Rattle.dk_engine.proofs.laws.order_does_not_matter.Goals as goal

pub returns : goal.returns
returns c = order_does_not_matter
