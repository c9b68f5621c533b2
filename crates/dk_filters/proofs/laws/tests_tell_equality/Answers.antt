use Rattle.dk_filters.proofs.Agreeing.{agrees_is_agreement}
use Rattle.dk_filters.proofs.Same.{same_states_are_equal}
use Rattle.dk_filters.proofs.laws.tests_tell_equality.Goals as goal

pub returns-clause-states : goal.returns-clause-states
returns-clause-states c = same_states_are_equal

pub returns-clause-variables : goal.returns-clause-variables
returns-clause-variables c = agrees_is_agreement
