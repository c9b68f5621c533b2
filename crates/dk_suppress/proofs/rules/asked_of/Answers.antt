use Rattle.std.proofs.Common.{sym}
use Rattle.std.proofs.lemmas.Bool.{ltb-false, ltb-true}
use Rattle.dk_suppress.proofs.AskedRows.{asked_found, asked_past}
use Rattle.dk_suppress.proofs.rules.asked_of.Goals as goal

pub returns-in-Some : goal.returns-in-Some
returns-in-Some c = asked_found c.asked_rows.result.now c.asked_rows.ensures c.args.row c.in-Some.premises.now (ltb-true _ _ (sym c.in-Some.ensures.lookup.0)) c.in-Some.ensures.lookup.1

pub returns-in-None : goal.returns-in-None
returns-in-None c = asked_past c.asked_rows.result.now c.asked_rows.ensures c.args.row (ltb-false _ _ (sym c.in-None.ensures.lookup.0))
