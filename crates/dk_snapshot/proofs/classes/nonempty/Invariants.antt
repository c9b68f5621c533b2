use Rattle.std.proofs.Common.{◌≡◌}
use Rattle.dk_snapshot.specs.Classes.{nonempty}
use Rattle.dk_snapshot.proofs.classes.nonempty.Given as goal

abbrev pub invariant-loop-group : goal.invariant-loop-group
invariant-loop-group l = l.left ≡ nonempty l.yielded
