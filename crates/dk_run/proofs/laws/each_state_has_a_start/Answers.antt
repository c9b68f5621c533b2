use Rattle.dk_run.proofs.Starts.{each_state_has_a_start}
use Rattle.dk_run.proofs.laws.each_state_has_a_start.Goals as goal

pub returns : goal.returns
returns c = each_state_has_a_start
