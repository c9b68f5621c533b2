use Rattle.dk_instances.proofs.Whole.{fit_is_proper}
use Rattle.dk_instances.proofs.laws.fits_are_proper.Goals as goal

pub returns : goal.returns
returns c = fit_is_proper
