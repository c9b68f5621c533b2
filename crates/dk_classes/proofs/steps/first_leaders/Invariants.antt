use Rattle.std.proofs.Common.{◌≡◌, ◌<◌, ℕ, [], length}
use Rattle.dk_classes.specs.Classes.{InClass, IsFirst, var_kinds}
use Rattle.dk_classes.specs.Leaders.{leader_at}
use Rattle.dk_classes.proofs.steps.first_leaders.Given as goal

abbrev pub invariant-loop-v : goal.invariant-loop-v
invariant-loop-v l = record {
  long : length l.leaders.items ≡ l.v;
  each : (k : ℕ) → k < l.v → IsFirst (InClass (var_kinds l.vars) [] k) (leader_at l.leaders.items k);
}
