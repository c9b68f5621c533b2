use Rattle.std.specs.Prelude.{◌≡◌, fold, take}
use Rattle.dk_engine.specs.Feeding.Narrow.{with_growth}
use Rattle.dk_engine.proofs.slots.grow_slots.Given as goal

abbrev pub invariant-loop-growth : goal.invariant-loop-growth
invariant-loop-growth l = l.slots ≡ fold with_growth l.initial.slots (take l.growth-index l.growths)
