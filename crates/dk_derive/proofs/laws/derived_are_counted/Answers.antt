use Rattle.dk_derive.proofs.Numbers.{derived_are_counted}
use Rattle.dk_derive.proofs.laws.derived_are_counted.Goals as goal

pub returns : goal.returns
returns c = derived_are_counted
