use Rattle.dk_state.specs.Declarations.{mapped_line}
use Rattle.dk_state.proofs.Pieces.{one_more}
use Rattle.dk_state.proofs.declarations.push_all_mapped.Goals as goal

pub loop-parent-preserved : goal.loop-parent-preserved
loop-parent-preserved c =
    one_more mapped_line c.args.parents.now c.loop-parent.parent-index c.parent-item.result c.args.text.now c.loop-parent.text c.push_mapped.new.text
    c.loop-parent-test.true c.parent-item.is c.loop-parent.invariant c.in_ok-push_mapped.ensures
