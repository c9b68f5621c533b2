use Rattle.dk_verdicts.proofs.Along.{records_reach_along_paths}
use Rattle.dk_verdicts.proofs.PathLists.{paths_are_all}
use Rattle.dk_verdicts.proofs.PathsOnce.{paths_are_once}
use Rattle.dk_verdicts.proofs.laws.records_reach_along_paths.Goals as goal

pub returns-clause-samples : goal.returns-clause-samples
returns-clause-samples c = records_reach_along_paths

pub returns-clause-all : goal.returns-clause-all
returns-clause-all c = paths_are_all

pub returns-clause-once : goal.returns-clause-once
returns-clause-once c = paths_are_once
