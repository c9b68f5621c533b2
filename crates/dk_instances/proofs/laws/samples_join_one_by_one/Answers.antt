use Rattle.dk_instances.proofs.Pushing.{fit_push}
use Rattle.dk_instances.proofs.laws.samples_join_one_by_one.Goals as goal

pub returns : goal.returns
returns c = fit_push
