use Rattle.dk_state.proofs.PassedEngines.{engine_more_passed}
use Rattle.dk_state.proofs.matching.pass_engines.Goals as goal

pub loop-point-preserved : goal.loop-point-preserved
loop-point-preserved c =
    engine_more_passed c.args.engines.now c.loop-point.point c.index-engines-point.result c.args.rest.now c.loop-point.rest c.pass_engine.new.rest
    c.loop-point-test.true c.index-engines-point.is c.loop-point.invariant c.in_ok-pass_engine.ensures
