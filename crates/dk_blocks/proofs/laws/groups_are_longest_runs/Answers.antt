use Rattle.dk_blocks.proofs.Grouping.{longest_runs}
use Rattle.dk_blocks.proofs.laws.groups_are_longest_runs.Goals as goal

pub returns : goal.returns
returns c = longest_runs
