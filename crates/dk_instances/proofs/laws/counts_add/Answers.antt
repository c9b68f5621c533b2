use Rattle.dk_instances.proofs.Fitting.{count_of_both, count_of_none, count_of_tuples}
use Rattle.dk_instances.proofs.laws.counts_add.Goals as goal

pub returns-clause-tuples : goal.returns-clause-tuples
returns-clause-tuples c = count_of_tuples

pub returns-clause-both : goal.returns-clause-both
returns-clause-both c = count_of_both

pub returns-clause-none : goal.returns-clause-none
returns-clause-none c = count_of_none
