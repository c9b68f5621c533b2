use Rattle.std.proofs.Common.{◌≡◌, ◌<◌, ◌≤◌, ℕ}
use Rattle.dk_classes.specs.Leaders.{leader_at}
use Rattle.dk_snapshot.proofs.members.are_classes.Given as goal

abbrev pub invariant-loop-v : goal.invariant-loop-v
invariant-loop-v l = record {
  before : (k : ℕ) → k < l.v → leader_at l.leaders k ≤ k;
  own : (k : ℕ) → k < l.v → leader_at l.leaders (leader_at l.leaders k) ≡ leader_at l.leaders k;
}
