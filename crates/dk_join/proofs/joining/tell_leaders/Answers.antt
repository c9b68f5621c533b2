use Rattle.dk_join.proofs.joining.tell_leaders.Goals as goal

pub returns-clause-long : goal.returns-clause-long
returns-clause-long c = c.kept.ensures.fed.readable.leaders.long
