use Rattle.std.proofs.Common.{get_or}
use Rattle.std.proofs.lemmas.List.{get_or_default}
use Rattle.dk_expr.specs.Following.{start}
use Rattle.dk_expr.specs.declared.found.Parsed.{Parsed}
use Rattle.dk_expr.proofs.FirstRead.{more_least}
use Rattle.dk_expr.proofs.reading.least_among.Goals as goal

pub loop-found-preserved : goal.loop-found-preserved
loop-found-preserved c =
    let here : Parsed = get_or c.args.ends.now c.loop-found.found-index start in
    more_least c.args.infos.now c.args.text.now c.args.row c.args.ends.now c.loop-found.least c.in_ok-next.next c.lesser-least.result c.loop-found.found-index here
    c.loop-found-test.true (get_or_default c.args.ends.now c.loop-found.found-index start here c.loop-found-test.true)
    c.in_ok-next.ensures.has c.in_ok-next.ensures.some c.lesser-least.ensures.choice c.lesser-least.ensures.first c.lesser-least.ensures.second c.loop-found.invariant
