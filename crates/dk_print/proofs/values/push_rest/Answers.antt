use Rattle.std.proofs.Common.{◌++◌, codes}
use Rattle.dk_print.proofs.Pieces.{one_more}
use Rattle.dk_print.proofs.values.push_rest.Goals as goal

pub loop-value-preserved : goal.loop-value-preserved
loop-value-preserved g c =
    one_more (λ x. codes ", " ++ g.T.Printed.text_of x) c.args.values.now c.loop-value.value-index c.value-item.result c.args.text.now c.loop-value.text c.push_next.new.text
    c.loop-value-test.true c.value-item.is c.loop-value.invariant c.in_ok-push_next.ensures
