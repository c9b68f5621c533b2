use Rattle.std.proofs.Common.{sym}
use Rattle.std.proofs.lemmas.Bool.{ltb-false, ltb-true}
use Rattle.dk_suppress.proofs.Freed.{freed_found, freed_past}
use Rattle.dk_suppress.proofs.freeing.freed_by.Goals as goal

pub returns-in-Some : goal.returns-in-Some
returns-in-Some c = freed_found c.freed_rows.result.now c.freed_rows.ensures c.args.row c.in-Some.rows.now (ltb-true _ _ (sym c.in-Some.ensures.lookup.0)) c.in-Some.ensures.lookup.1

pub returns-in-None : goal.returns-in-None
returns-in-None c = freed_past c.freed_rows.result.now c.freed_rows.ensures c.args.row (ltb-false _ _ (sym c.in-None.ensures.lookup.0))
