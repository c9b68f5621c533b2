use Rattle.std.proofs.Common.{◌≡◌, ◌<◌, ℕ, length}
use Rattle.dk_base.specs.Values.{values_of}
use Rattle.dk_classes.specs.Classes.{IsFirst, IsLike, NewBelow}
use Rattle.dk_classes.specs.Keys.{HaveKeys}
use Rattle.dk_classes.specs.Leaders.{leader_at}
use Rattle.dk_classes.proofs.steps.split_leaders.Given as goal

abbrev pub invariant-loop-v : goal.invariant-loop-v
invariant-loop-v l = record {
  long : length l.split.items ≡ l.v;
  each : (k : ℕ) → k < l.v → IsFirst (IsLike l.leaders (values_of l.sample) k) (leader_at l.split.items k);
  new : NewBelow l.leaders (values_of l.sample) l.v l.new;
  keys : HaveKeys (values_of l.sample) l.new l.keys.keys;
}
