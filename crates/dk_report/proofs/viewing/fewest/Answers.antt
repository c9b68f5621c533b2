use Rattle.std.proofs.Common.{sym}
use Rattle.dk_instances.proofs.Members.{is_in}
use Rattle.dk_report.proofs.Rules.{view-among}
use Rattle.dk_report.proofs.viewing.fewest.Goals as goal

pub loop-way-preserved : goal.loop-way-preserved
loop-way-preserved c =
    let engines = c.args.engines.now in
    let ways = c.args.ways.now in
    let vars = c.args.vars.now in
    let item = c.way-item.result in
    c.fewer-best.ensures engines ways vars c.loop-way.invariant
    (view-among engines ways vars item (is_in item ways c.loop-way.way-index c.loop-way-test.true (sym c.way-item.is)) c.view_of.result c.view_of.ensures)
