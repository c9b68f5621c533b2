use Rattle.dk_state.proofs.Engines.{engine_more}
use Rattle.dk_state.proofs.saving.push_engines.Goals as goal

pub loop-point-preserved : goal.loop-point-preserved
loop-point-preserved c =
    engine_more c.args.engines.now c.loop-point.point c.index-engines-point.result c.args.text.now c.loop-point.text c.push_engine.new.text
    c.loop-point-test.true c.index-engines-point.is c.loop-point.invariant c.in_ok-push_engine.ensures
