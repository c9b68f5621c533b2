use Rattle.dk_hierarchy.proofs.Going.{equal_ways, ways_go_on}
use Rattle.dk_hierarchy.proofs.laws.ways_bring_samples.Goals as goal

pub returns-clause-below : goal.returns-clause-below
returns-clause-below c = ways_go_on

pub returns-clause-added : goal.returns-clause-added
returns-clause-added c = equal_ways
