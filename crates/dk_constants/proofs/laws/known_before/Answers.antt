use Rattle.dk_constants.proofs.Determined.{known_before}
use Rattle.dk_constants.proofs.laws.known_before.Goals as goal

pub returns : goal.returns
returns c = known_before
