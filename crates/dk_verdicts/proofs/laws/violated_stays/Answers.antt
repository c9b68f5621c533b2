use Rattle.dk_verdicts.proofs.Found.{violation_stays}
use Rattle.dk_verdicts.proofs.laws.violated_stays.Goals as goal

pub returns : goal.returns
returns c = violation_stays
