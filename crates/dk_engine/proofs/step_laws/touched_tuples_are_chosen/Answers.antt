use Rattle.dk_engine.proofs.Choices.{touched_tuples_are_chosen}
use Rattle.dk_engine.proofs.step_laws.touched_tuples_are_chosen.Goals as goal

pub returns : goal.returns
returns c = touched_tuples_are_chosen
