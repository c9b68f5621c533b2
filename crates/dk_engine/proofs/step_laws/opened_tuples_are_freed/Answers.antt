use Rattle.dk_engine.proofs.Freeing.{opened_tuples_are_freed}
use Rattle.dk_engine.proofs.step_laws.opened_tuples_are_freed.Goals as goal

pub returns : goal.returns
returns c = opened_tuples_are_freed
