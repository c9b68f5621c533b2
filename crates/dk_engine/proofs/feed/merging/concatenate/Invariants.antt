use Rattle.std.specs.Prelude.{◌≡◌, ◌++◌}
use Rattle.dk_engine.proofs.feed.merging.concatenate.Given as goal

abbrev pub invariant-loop-slot : goal.invariant-loop-slot
invariant-loop-slot l = l.all.items ≡ l.initial.all.items ++ l.yielded
