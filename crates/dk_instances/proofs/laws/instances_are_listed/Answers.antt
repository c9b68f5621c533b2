use Rattle.dk_instances.proofs.Ascending.{instances_ascend}
use Rattle.dk_instances.proofs.Listing.{instances_listed}
use Rattle.dk_instances.proofs.laws.instances_are_listed.Goals as goal

pub returns-clause-exact : goal.returns-clause-exact
returns-clause-exact c = instances_listed

pub returns-clause-ascend : goal.returns-clause-ascend
returns-clause-ascend c = instances_ascend
