use Rattle.std.proofs.Common.{subst, sym}
use Rattle.dk_engine.proofs.Passing.{none_passed}
use Rattle.dk_engine.specs.Idle.{AreSkips}
use Rattle.dk_engine.proofs.slots.Slots.of.Goals as goal

pub invariant_of-result : goal.invariant_of-result
invariant_of-result c =
    let watch = c.none.result.watch in
    subst (AreSkips watch c.args.all.items) (sym c.none.ensures) (none_passed watch c.args.all.items)
