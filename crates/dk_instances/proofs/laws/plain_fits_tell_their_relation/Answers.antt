use Rattle.dk_instances.proofs.Fitting.{fit_of_plain, plain_holds}
use Rattle.dk_instances.proofs.laws.plain_fits_tell_their_relation.Goals as goal

pub returns-clause-fit : goal.returns-clause-fit
returns-clause-fit c = fit_of_plain

pub returns-clause-holds : goal.returns-clause-holds
returns-clause-holds c = plain_holds
