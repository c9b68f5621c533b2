use Rattle.dk_engine.proofs.Fed.{fed_parts_exact}
use Rattle.dk_engine.proofs.laws.fed_parts_are_exact.Goals as goal

pub returns : goal.returns
returns c = fed_parts_exact
