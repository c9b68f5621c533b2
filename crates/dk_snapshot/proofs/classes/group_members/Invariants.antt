use Rattle.std.proofs.Common.{◌≡◌, ◌<◌, [], ℕ, get_or, length, take}
use Rattle.dk_snapshot.specs.Classes.{members_of}
use Rattle.dk_snapshot.proofs.classes.group_members.Given as goal

abbrev pub invariant-loop-v : goal.invariant-loop-v
invariant-loop-v l = record {
  long : length l.groups.items ≡ l.count;
  each : (k : ℕ) → k < l.count → get_or l.groups.items k [] ≡ members_of (take l.v l.classes) k;
}
