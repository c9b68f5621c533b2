use Rattle.dk_instances.proofs.Fitting.{fit_of_both, fit_of_none, fit_of_set}
use Rattle.dk_instances.proofs.laws.fits_join.Goals as goal

pub returns-clause-none : goal.returns-clause-none
returns-clause-none c = fit_of_none

pub returns-clause-both : goal.returns-clause-both
returns-clause-both c = fit_of_both

pub returns-clause-same : goal.returns-clause-same
returns-clause-same c = fit_of_set
