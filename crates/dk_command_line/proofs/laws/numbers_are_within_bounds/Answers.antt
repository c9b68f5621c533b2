use Rattle.dk_command_line.proofs.Bounds.{within_bounds}
use Rattle.dk_command_line.proofs.laws.numbers_are_within_bounds.Goals as goal

pub returns : goal.returns
returns c = within_bounds
