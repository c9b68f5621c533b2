use Rattle.dk_engine.proofs.Stepping.{stepped_slots_are_exact}
use Rattle.dk_engine.proofs.step_laws.stepped_slots_are_exact.Goals as goal

pub returns : goal.returns
returns c = stepped_slots_are_exact
