use Rattle.std.proofs.Common.{◌≡◌, ◌<◌, ◌≤◌, ℕ, length, get_or, take, false}
use Rattle.dk_base.specs.declared.kinds.VarId.{VarId}
use Rattle.dk_samples.specs.Leaders.{VarsAscend}
use Rattle.dk_presence.specs.Patterns.{has}
use Rattle.dk_presence.specs.Steps.{with_new}
use Rattle.dk_presence.proofs.steps.with_leaders.Given as goal

abbrev pub invariant-loop-leader : goal.invariant-loop-leader
invariant-loop-leader l = record {
  is : l.more.items ≡ with_new (take l.leader-index l.new) l.leaders l.leaders;
  ascend : VarsAscend l.more.items;
  off : (k : ℕ) (d : VarId × VarId) → l.leader-index ≤ k → k < length l.new → has l.more.items (get_or l.new k d).0 ≡ false;
}
