use Rattle.dk_core.proofs.Going.{no_samples}
use Rattle.dk_core.proofs.laws.no_samples_are_a_start.Goals as goal

pub returns : goal.returns
returns c = no_samples
