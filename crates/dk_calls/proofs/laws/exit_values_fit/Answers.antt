use Rattle.dk_calls.proofs.Fitted.{exit_values_fit}
use Rattle.dk_calls.proofs.laws.exit_values_fit.Goals as goal

pub returns : goal.returns
returns c = exit_values_fit
