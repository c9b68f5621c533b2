use Rattle.dk_merge_command_line.proofs.Whole.{numbers_within}
use Rattle.dk_merge_command_line.proofs.laws.numbers_are_within_bounds.Goals as goal

pub returns : goal.returns
returns c = numbers_within
