use Rattle.std.proofs.Common.{◌≡◌, ◌<◌, ◌≤◌, ℕ, get_or, length, map, take}
use Rattle.dk_classes.specs.Leaders.{var}
use Rattle.dk_presence.specs.Patterns.{has}
use Rattle.dk_samples.specs.Leaders.{VarsAscend}
use Rattle.dk_snapshot.proofs.pattern.presence_of.Given as goal

abbrev pub invariant-loop-leader : goal.invariant-loop-leader
invariant-loop-leader l = record {
  so_far : l.truths.items ≡ map (has l.present) (take l.leader-index l.leaders);
  ascend : VarsAscend l.left;
  same : (j : ℕ) → l.leader-index ≤ j → j < length l.leaders → has l.left (get_or l.leaders j (var 0)) ≡ has l.present (get_or l.leaders j (var 0));
}
