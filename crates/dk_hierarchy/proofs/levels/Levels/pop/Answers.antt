use Rattle.dk_hierarchy.proofs.Ranks.{popped-below}
use Rattle.dk_hierarchy.proofs.levels.Levels.pop.Goals as goal

pub returns-clause-below : goal.returns-clause-below
returns-clause-below c = popped-below c.pop_last.result c.pop_last.new.self.entries c.pop_last.ensures.all_below
