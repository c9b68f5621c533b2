use Rattle.dk_filters.proofs.Asked.{facts_are_of_what_may_be_asked}
use Rattle.dk_filters.proofs.laws.facts_are_of_what_may_be_asked.Goals as goal

pub returns : goal.returns
returns c = facts_are_of_what_may_be_asked
