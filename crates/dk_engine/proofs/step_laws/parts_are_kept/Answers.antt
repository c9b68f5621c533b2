use Rattle.dk_engine.proofs.AllParts.{fed_parts_are_kept, first_parts_are_kept}
use Rattle.dk_engine.proofs.Unchanging.{first_sample_has_no_slots}
use Rattle.dk_engine.proofs.step_laws.parts_are_kept.Goals as goal

pub returns-clause-fed : goal.returns-clause-fed
returns-clause-fed c = fed_parts_are_kept

pub returns-clause-first : goal.returns-clause-first
returns-clause-first c = first_parts_are_kept

pub returns-clause-none : goal.returns-clause-none
returns-clause-none c = first_sample_has_no_slots
