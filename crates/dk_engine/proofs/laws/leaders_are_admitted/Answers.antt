use Rattle.dk_engine.proofs.Leading.{admit_all, are_leaders_of}
use Rattle.dk_engine.proofs.laws.leaders_are_admitted.Goals as goal

pub returns : goal.returns
returns c infos point samples leaders are row vars h = admit_all infos point leaders (are_leaders_of infos samples leaders are point.few) row vars h
