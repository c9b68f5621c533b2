use Rattle.dk_merge_command_line.proofs.Whole.{file_named}
use Rattle.dk_merge_command_line.proofs.laws.some_file_is_named.Goals as goal

pub returns : goal.returns
returns c = file_named
