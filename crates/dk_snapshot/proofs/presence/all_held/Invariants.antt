use Rattle.std.proofs.Common.{◌≡◌, map}
use Rattle.dk_snapshot.specs.Restored.{held_of}
use Rattle.dk_snapshot.proofs.presence.all_held.Given as goal

abbrev pub invariant-loop-pattern : goal.invariant-loop-pattern
invariant-loop-pattern l = l.held ≡ map (held_of l.leaders) l.yielded
