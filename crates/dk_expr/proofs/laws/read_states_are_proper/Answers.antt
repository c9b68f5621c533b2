use Rattle.dk_expr.proofs.FirstRead.{read_states_are_proper}
use Rattle.dk_expr.proofs.laws.read_states_are_proper.Goals as goal

pub returns : goal.returns
returns c = read_states_are_proper
