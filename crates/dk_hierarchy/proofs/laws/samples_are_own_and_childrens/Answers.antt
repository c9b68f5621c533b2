use Rattle.dk_hierarchy.proofs.Samples.{own_and_childrens, suffice}
use Rattle.dk_hierarchy.proofs.laws.samples_are_own_and_childrens.Goals as goal

pub returns-clause-each : goal.returns-clause-each
returns-clause-each c = own_and_childrens

pub returns-clause-depths : goal.returns-clause-depths
returns-clause-depths c = suffice
