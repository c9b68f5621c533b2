use Rattle.dk_engine.proofs.Determined.{slots_are_determined}
use Rattle.dk_engine.proofs.DeterminedParts.{kept_parts_determined}
use Rattle.dk_engine.proofs.laws.kept_parts_are_determined.Goals as goal

pub returns-clause-slots : goal.returns-clause-slots
returns-clause-slots c = slots_are_determined

pub returns-clause-parts : goal.returns-clause-parts
returns-clause-parts c = kept_parts_determined
