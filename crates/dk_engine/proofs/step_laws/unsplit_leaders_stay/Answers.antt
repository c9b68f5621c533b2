use Rattle.dk_engine.proofs.Unsplit.{own_leaders_ascend, unsplit_leaders_stay}
use Rattle.dk_engine.proofs.step_laws.unsplit_leaders_stay.Goals as goal

pub returns-clause-ascend : goal.returns-clause-ascend
returns-clause-ascend c = own_leaders_ascend

pub returns-clause-stay : goal.returns-clause-stay
returns-clause-stay c = unsplit_leaders_stay
