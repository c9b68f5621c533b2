use Rattle.dk_instances.proofs.Fitting.{count_alike, fit_alike}
use Rattle.dk_instances.proofs.laws.agreeing_variables_are_alike.Goals as goal

pub returns-clause-fit : goal.returns-clause-fit
returns-clause-fit c = fit_alike

pub returns-clause-count : goal.returns-clause-count
returns-clause-count c = count_alike
