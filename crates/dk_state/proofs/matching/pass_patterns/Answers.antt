use Rattle.dk_state.specs.Kept.{pattern_line}
use Rattle.dk_state.proofs.Passing.{one_more_passed}
use Rattle.dk_state.proofs.matching.pass_patterns.Goals as goal

pub loop-pattern-preserved : goal.loop-pattern-preserved
loop-pattern-preserved c =
    one_more_passed pattern_line c.args.patterns.now c.loop-pattern.pattern-index c.pattern-item.result c.args.rest.now c.loop-pattern.rest c.pass_pattern.new.rest
    c.loop-pattern-test.true c.pattern-item.is c.loop-pattern.invariant c.in_ok-pass_pattern.ensures
