use Rattle.dk_template.proofs.WrittenOrder.{exchangeable_roles_take_the_same}
use Rattle.dk_template.proofs.laws.exchangeable_roles_take_the_same.Goals as goal

pub returns : goal.returns
returns c = exchangeable_roles_take_the_same
