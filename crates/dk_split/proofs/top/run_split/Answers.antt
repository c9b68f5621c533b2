use Rattle.dk_implications.specs.Reports.{implications_report}
use Rattle.dk_split.proofs.top.run_split.Goals as goal

pub returns-clause-says : goal.returns-clause-says
unfolding implications_report
returns-clause-says g c = c.run_program.ensures.says

pub returns-clause-complete : goal.returns-clause-complete
unfolding implications_report
returns-clause-complete g c = c.run_program.ensures.complete
