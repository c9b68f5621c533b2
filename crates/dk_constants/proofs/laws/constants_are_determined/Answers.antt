use Rattle.dk_constants.proofs.Determined.{constants_are_determined, no_samples_have_none}
use Rattle.dk_constants.proofs.laws.constants_are_determined.Goals as goal

pub returns-clause-one : goal.returns-clause-one
returns-clause-one c = constants_are_determined

pub returns-clause-none : goal.returns-clause-none
returns-clause-none c = no_samples_have_none
