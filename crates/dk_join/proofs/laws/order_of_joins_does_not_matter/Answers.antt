use Rattle.dk_join.proofs.AnyOrder.{order_of_joins_does_not_matter}
use Rattle.dk_join.proofs.laws.order_of_joins_does_not_matter.Goals as goal

pub returns : goal.returns
returns c = order_of_joins_does_not_matter
