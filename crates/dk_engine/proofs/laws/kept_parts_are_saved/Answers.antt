use Rattle.dk_engine.proofs.Saving.{kept_parts_are_saved}
use Rattle.dk_engine.proofs.laws.kept_parts_are_saved.Goals as goal

pub returns : goal.returns
returns c = kept_parts_are_saved
