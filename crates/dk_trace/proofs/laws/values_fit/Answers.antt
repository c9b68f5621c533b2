use Rattle.dk_trace.proofs.Fitted.{samples_fit}
use Rattle.dk_trace.proofs.laws.values_fit.Goals as goal

pub returns : goal.returns
returns c = samples_fit
