use Rattle.dk_engine.proofs.AllParts.{premises_ask_their_slots, reading_tells}
use Rattle.dk_engine.proofs.step_laws.reading_tells.Goals as goal

pub returns-clause-reading : goal.returns-clause-reading
returns-clause-reading c = reading_tells

pub returns-clause-premises : goal.returns-clause-premises
returns-clause-premises c = premises_ask_their_slots
