use Rattle.std.proofs.Common.{◌≡◌, [], replicate}
use Rattle.dk_snapshot.proofs.classes.empty_groups.Given as goal

abbrev pub invariant-loop-v : goal.invariant-loop-v
invariant-loop-v l = l.groups.items ≡ replicate l._v []
