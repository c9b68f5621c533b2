use Rattle.dk_hierarchy.proofs.Going.{descents_begin, descents_end, descents_go_on}
use Rattle.dk_hierarchy.proofs.laws.descents_bring_all_samples.Goals as goal

pub returns-clause-begin : goal.returns-clause-begin
returns-clause-begin c = descents_begin

pub returns-clause-go_on : goal.returns-clause-go_on
returns-clause-go_on c = descents_go_on

pub returns-clause-end : goal.returns-clause-end
returns-clause-end c = descents_end
