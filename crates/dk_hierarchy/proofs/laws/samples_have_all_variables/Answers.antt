use Rattle.dk_hierarchy.proofs.Mapped.{samples_are_of_variables}
use Rattle.dk_hierarchy.proofs.Samples.{all_variables}
use Rattle.dk_hierarchy.proofs.laws.samples_have_all_variables.Goals as goal

pub returns-clause-long : goal.returns-clause-long
returns-clause-long c = all_variables

pub returns-clause-samples : goal.returns-clause-samples
returns-clause-samples c = samples_are_of_variables
