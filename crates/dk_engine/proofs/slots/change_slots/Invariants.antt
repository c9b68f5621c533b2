use Rattle.std.specs.Prelude.{◌≡◌, fold}
use Rattle.dk_engine.specs.Feeding.Narrow.{with_change}
use Rattle.dk_engine.proofs.slots.change_slots.Given as goal

abbrev pub invariant-loop-change : goal.invariant-loop-change
invariant-loop-change l = l.slots ≡ fold with_change l.initial.slots l.yielded
