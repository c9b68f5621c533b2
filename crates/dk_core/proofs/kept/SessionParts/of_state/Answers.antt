use Rattle.dk_core.proofs.Resuming.{begins, between}
use Rattle.dk_core.proofs.kept.SessionParts.of_state.Goals as goal

pub returns-clause-reads : goal.returns-clause-reads
returns-clause-reads c = c.in_ok-of_table.ensures.stands

pub returns-clause-stands : goal.returns-clause-stands
returns-clause-stands c h start stands grammar points word =
    begins _ h c.args.loaded.engines stands c.into_vec.ensures grammar (c.in_ok-of_table.ensures.stands h (between h start) points word)
