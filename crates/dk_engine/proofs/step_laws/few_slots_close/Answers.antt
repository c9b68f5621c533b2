use Rattle.dk_engine.proofs.Closing.{few_slots_close}
use Rattle.dk_engine.proofs.step_laws.few_slots_close.Goals as goal

pub returns : goal.returns
returns c = few_slots_close
