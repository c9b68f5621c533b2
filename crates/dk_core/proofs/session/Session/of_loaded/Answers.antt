use Rattle.dk_core.proofs.OwnTables.{own_constants}
use Rattle.dk_core.proofs.session.Session.of_loaded.Goals as goal

pub of_state-requires-clause-constants : goal.of_state-requires-clause-constants
of_state-requires-clause-constants g c = own_constants c.args.loaded.points c.requires.table

pub returns-clause-stands : goal.returns-clause-stands
returns-clause-stands g c h of = c.in_ok-kept.ensures.stands h of.start of.stand of.grammar of.table of.word
