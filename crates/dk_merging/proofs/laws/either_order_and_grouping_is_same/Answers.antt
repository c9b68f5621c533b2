use Rattle.dk_merging.proofs.MergedFiles.{either_grouping, either_order}
use Rattle.dk_merging.proofs.laws.either_order_and_grouping_is_same.Goals as goal

pub returns-clause-order : goal.returns-clause-order
returns-clause-order c = either_order

pub returns-clause-grouping : goal.returns-clause-grouping
returns-clause-grouping c = either_grouping
