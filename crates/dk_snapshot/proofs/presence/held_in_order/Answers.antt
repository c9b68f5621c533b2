use Rattle.std.proofs.Common.{arith}
use Rattle.dk_snapshot.proofs.Rising.{saved_as_held}
use Rattle.dk_snapshot.proofs.presence.held_in_order.Goals as goal

pub returns : goal.returns
returns c = λ _. saved_as_held c.args.leaders.now c.args.held.now (λ k d l. c.loop-i.invariant k d (omega (arith, c.loop-i-test.false, l)))
