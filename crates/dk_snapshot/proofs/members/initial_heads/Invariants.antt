use Rattle.std.proofs.Common.{◌≡◌, replicate}
use Rattle.dk_classes.specs.Leaders.{var}
use Rattle.dk_snapshot.proofs.members.initial_heads.Given as goal

abbrev pub invariant-loop-v : goal.invariant-loop-v
invariant-loop-v l = l.heads.items ≡ replicate l._v (var 0)
