use Rattle.dk_filters.proofs.Ascending.{candidates_are, candidates_ascend, kept_ascend}
use Rattle.dk_filters.proofs.laws.candidates_are_instances.Goals as goal

pub returns-clause-exact : goal.returns-clause-exact
returns-clause-exact c = candidates_are

pub returns-clause-ascend : goal.returns-clause-ascend
returns-clause-ascend c = candidates_ascend

pub returns-clause-kept : goal.returns-clause-kept
returns-clause-kept c = kept_ascend
