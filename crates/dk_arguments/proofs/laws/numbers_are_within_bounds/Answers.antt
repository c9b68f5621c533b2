use Rattle.dk_arguments.proofs.Bounds.{within_bounds}
use Rattle.dk_arguments.proofs.laws.numbers_are_within_bounds.Goals as goal

pub returns : goal.returns
returns c = within_bounds
