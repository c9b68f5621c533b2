use Rattle.std.proofs.Common.{sym}
use Rattle.std.proofs.lemmas.Bool.{ltb-false, ltb-true}
use Rattle.dk_engine.proofs.ReachedRows.{reached_found, reached_past}
use Rattle.dk_engine.proofs.sweeps.reaching.rows_reached.Goals as goal

pub returns-in-Some : goal.returns-in-Some
returns-in-Some c = reached_found c.reached_rows.result.now c.reached_rows.ensures c.args.row c.in-Some.rows.now (ltb-true _ _ (sym c.in-Some.ensures.lookup.0)) c.in-Some.ensures.lookup.1

pub returns-in-None : goal.returns-in-None
returns-in-None c = sym (reached_past c.reached_rows.result.now c.reached_rows.ensures c.args.row (ltb-false _ _ (sym c.in-None.ensures.lookup.0)))
