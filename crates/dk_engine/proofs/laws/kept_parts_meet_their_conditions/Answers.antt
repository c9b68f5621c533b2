use Rattle.dk_engine.proofs.PartsOfSamples.{kept_parts_meet}
use Rattle.dk_engine.proofs.laws.kept_parts_meet_their_conditions.Goals as goal

pub returns : goal.returns
returns c = kept_parts_meet
