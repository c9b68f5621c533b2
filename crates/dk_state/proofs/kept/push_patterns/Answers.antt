use Rattle.dk_state.specs.Kept.{pattern_line}
use Rattle.dk_state.proofs.Pieces.{one_more}
use Rattle.dk_state.proofs.kept.push_patterns.Goals as goal

pub loop-pattern-preserved : goal.loop-pattern-preserved
loop-pattern-preserved c =
    one_more pattern_line c.args.patterns.now c.loop-pattern.pattern-index c.pattern-item.result c.args.text.now c.loop-pattern.text c.push_pattern.new.text
    c.loop-pattern-test.true c.pattern-item.is c.loop-pattern.invariant c.in_ok-push_pattern.ensures
