use Rattle.std.proofs.Common.{◌≡◌, length}
use Rattle.dk_snapshot.specs.Patterns.{from_var}
use Rattle.dk_snapshot.proofs.pattern.from_var.Given as goal

abbrev pub invariant-lesser : goal.invariant-lesser
invariant-lesser l = from_var l.v l.left ≡ from_var l.v l.vars

abbrev pub decreases-lesser : goal.decreases-lesser
decreases-lesser l = length l.left
