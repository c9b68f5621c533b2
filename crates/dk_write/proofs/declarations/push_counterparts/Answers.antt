use Rattle.dk_write.specs.Declarations.{counterpart_lines}
use Rattle.dk_write.proofs.Loops.{lines_more}
use Rattle.dk_write.proofs.declarations.push_counterparts.Goals as goal

pub loop-counterpart-preserved : goal.loop-counterpart-preserved
loop-counterpart-preserved c =
    lines_more (counterpart_lines c.args.edges.now) c.args.counterparts.now c.loop-counterpart.counterpart-index c.counterpart-item.result c.args.text.now c.loop-counterpart.text c.push_counterpart.new.text
    c.loop-counterpart-test.true c.counterpart-item.is c.loop-counterpart.invariant c.in_ok-push_counterpart.ensures
