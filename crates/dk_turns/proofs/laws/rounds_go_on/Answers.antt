use Rattle.dk_turns.proofs.Rounding.{rounds_go_on}
use Rattle.dk_turns.proofs.laws.rounds_go_on.Goals as goal

pub returns : goal.returns
returns c = rounds_go_on
