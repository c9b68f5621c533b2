use Rattle.dk_engine.proofs.Unchanging.{unchanged_slots_are_exact}
use Rattle.dk_engine.proofs.step_laws.unchanged_slots_are_exact.Goals as goal

pub returns : goal.returns
returns c = unchanged_slots_are_exact
