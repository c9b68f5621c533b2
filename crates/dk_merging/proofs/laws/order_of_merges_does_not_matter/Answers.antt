use Rattle.dk_merging.proofs.MergedFiles.{merges_are_state_files, order_of_merges}
use Rattle.dk_merging.proofs.laws.order_of_merges_does_not_matter.Goals as goal

pub returns-clause-files : goal.returns-clause-files
returns-clause-files c = merges_are_state_files

pub returns-clause-order : goal.returns-clause-order
returns-clause-order c = order_of_merges
