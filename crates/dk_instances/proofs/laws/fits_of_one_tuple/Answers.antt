use Rattle.dk_instances.proofs.Pushing.{fit_of_one}
use Rattle.dk_instances.proofs.laws.fits_of_one_tuple.Goals as goal

pub returns : goal.returns
returns c = fit_of_one
