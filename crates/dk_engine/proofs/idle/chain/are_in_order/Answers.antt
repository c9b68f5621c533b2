use Rattle.dk_engine.proofs.Ascending.{in_order_at}
use Rattle.dk_engine.proofs.idle.chain.are_in_order.Goals as goal

pub returns-then-stands_at : goal.returns-then-stands_at
returns-then-stands_at c h =
    let one = c.stands_at.ensures.stands c.if-stands_at.true in
    let other = c.stands_at-then-stands_at.ensures.stands h in
    in_order_at c.args.rising.now c.place_of-first.result c.place_of-second.result c.args.u c.args.v c.if-second-first.false other.0 one.1 other.1
