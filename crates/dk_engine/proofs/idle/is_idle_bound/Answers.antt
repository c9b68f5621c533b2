use Rattle.std.specs.Prelude.{◌≡◌}
use Rattle.std.proofs.Common.{rules}
use Rattle.dk_engine.proofs.KnownNumbers.{idle_greatest, idle_least}
use Rattle.dk_engine.proofs.idle.is_idle_bound.Goals as goal

pub returns-then-slot-eq-LOWER_BOUND : goal.returns-then-slot-eq-LOWER_BOUND
returns-then-slot-eq-LOWER_BOUND c h =
    let slot = c.args.slot.now in
    let row : slot.row.0 ≡ 2 = search rules in
    idle_least c.args.watch.now slot row c.args.v c.requires (c.is_idle_least.ensures h)

pub returns-then-slot-eq-UPPER_BOUND : goal.returns-then-slot-eq-UPPER_BOUND
returns-then-slot-eq-UPPER_BOUND c h =
    let slot = c.args.slot.now in
    let row : slot.row.0 ≡ 3 = search rules in
    idle_greatest c.args.watch.now slot row c.args.v c.requires (c.is_idle_greatest.ensures h)
