use Rattle.dk_template.proofs.PlainStates.{plain_states_fit_where_they_hold}
use Rattle.dk_template.proofs.laws.plain_states_fit_where_they_hold.Goals as goal

pub returns : goal.returns
returns c = plain_states_fit_where_they_hold
