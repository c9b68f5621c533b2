use Rattle.dk_run.proofs.Between.{run_begins}
use Rattle.dk_run.proofs.laws.runs_begin_at_starts.Goals as goal

pub returns : goal.returns
returns c = run_begins
