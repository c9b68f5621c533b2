use Rattle.dk_engine.proofs.Pushing.{unsatisfied_rows_break}
use Rattle.dk_engine.proofs.step_laws.unsatisfied_rows_break.Goals as goal

pub returns : goal.returns
returns c = unsatisfied_rows_break
