use Rattle.dk_join.proofs.Answering.{agree_joined_is_agreement, count_joined_is_count, read_joined_is_fit}
use Rattle.dk_join.proofs.laws.joined_answers_are_exact.Goals as goal

pub returns-clause-state : goal.returns-clause-state
returns-clause-state c = read_joined_is_fit

pub returns-clause-count : goal.returns-clause-count
returns-clause-count c = count_joined_is_count

pub returns-clause-agree : goal.returns-clause-agree
returns-clause-agree c = agree_joined_is_agreement
