use Rattle.dk_engine.proofs.PremiseSlots.{roles_read_the_slot}
use Rattle.dk_engine.proofs.Choices.{freed_tuples_are_chosen}
use Rattle.dk_engine.proofs.AllParts.{freed_premises_are_untouched}
use Rattle.dk_engine.proofs.Ranking.{freed_by_rank}
use Rattle.dk_engine.proofs.step_laws.freed_tuples_come_by_rank.Goals as goal

pub returns-clause-ranked : goal.returns-clause-ranked
returns-clause-ranked c = freed_by_rank

pub returns-clause-untouched : goal.returns-clause-untouched
returns-clause-untouched c = freed_premises_are_untouched

pub returns-clause-roles : goal.returns-clause-roles
returns-clause-roles c = roles_read_the_slot

pub returns-clause-chosen : goal.returns-clause-chosen
returns-clause-chosen c = freed_tuples_are_chosen
