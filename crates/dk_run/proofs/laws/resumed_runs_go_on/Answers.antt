use Rattle.dk_run.proofs.Resuming.{resumed_runs}
use Rattle.dk_run.proofs.laws.resumed_runs_go_on.Goals as goal

pub returns : goal.returns
returns c = resumed_runs
