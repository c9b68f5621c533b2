use Rattle.std.proofs.Common.{sym}
use Rattle.std.proofs.lemmas.Bool.{ltb-false, ltb-true}
use Rattle.dk_engine.proofs.ReachedRows.{concluded_found, concluded_past}
use Rattle.dk_engine.proofs.sweeps.reaching.is_concluded.Goals as goal

pub returns-in-Some : goal.returns-in-Some
returns-in-Some c = concluded_found c.concluded_rows.result.now c.concluded_rows.ensures c.args.row c.in-Some.concluded.now (ltb-true _ _ (sym c.in-Some.ensures.lookup.0)) c.in-Some.ensures.lookup.1

pub returns-in-None : goal.returns-in-None
returns-in-None c = sym (concluded_past c.concluded_rows.result.now c.concluded_rows.ensures c.args.row (ltb-false _ _ (sym c.in-None.ensures.lookup.0)))
