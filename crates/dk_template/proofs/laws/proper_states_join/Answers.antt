use Rattle.dk_template.proofs.ProperStates.{proper_laws}
use Rattle.dk_template.proofs.laws.proper_states_join.Goals as goal

pub returns : goal.returns
returns c = proper_laws
