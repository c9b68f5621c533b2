use Rattle.dk_run.proofs.Between.{run_ends}
use Rattle.dk_run.proofs.laws.runs_end_at_starts.Goals as goal

pub returns : goal.returns
returns c = run_ends
