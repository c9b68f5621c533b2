use Rattle.dk_engine.proofs.OneMore.{read_after_is_fit}
use Rattle.dk_engine.proofs.laws.read_after_is_fit.Goals as goal

pub returns : goal.returns
returns c = read_after_is_fit
