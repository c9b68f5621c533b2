use Rattle.dk_base.proofs.Spellings.{ended_early}
use Rattle.dk_base.proofs.names.is_spelled.Goals as goal

pub returns-in-None : goal.returns-in-None
returns-in-None c =
    ended_early c.loop-expected.left.now c.args.text.now c.args.name.now c.loop-expected.expected-index c.loop-expected-test.true c.loop-expected.invariant c.in-None.ensures.byte
