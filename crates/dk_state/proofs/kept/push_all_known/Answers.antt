use Rattle.dk_state.specs.Kept.{known_line}
use Rattle.dk_state.proofs.Pieces.{one_more}
use Rattle.dk_state.proofs.kept.push_all_known.Goals as goal

pub loop-known-preserved : goal.loop-known-preserved
loop-known-preserved c =
    one_more known_line c.args.all.now c.loop-known.known-index c.known-item.result c.args.text.now c.loop-known.text c.push_known.new.text
    c.loop-known-test.true c.known-item.is c.loop-known.invariant c.in_ok-push_known.ensures
