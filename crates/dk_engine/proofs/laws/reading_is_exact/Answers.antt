use Rattle.dk_engine.proofs.Readings.{agree_read_is_agreement, count_read_is_count, reading_is_fit}
use Rattle.dk_engine.proofs.laws.reading_is_exact.Goals as goal

pub returns-clause-state : goal.returns-clause-state
returns-clause-state c = reading_is_fit

pub returns-clause-count : goal.returns-clause-count
returns-clause-count c = count_read_is_count

pub returns-clause-agree : goal.returns-clause-agree
returns-clause-agree c = agree_read_is_agreement
