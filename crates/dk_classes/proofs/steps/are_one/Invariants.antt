use Rattle.std.proofs.Common.{◌≡◌, ◌<◌, ℕ}
use Rattle.dk_base.specs.Values.{values_of}
use Rattle.dk_samples.specs.Samples.{value_in}
use Rattle.dk_classes.specs.Leaders.{leader_at, var}
use Rattle.dk_classes.proofs.steps.are_one.Given as goal

abbrev pub invariant-loop-v : goal.invariant-loop-v
invariant-loop-v l = (k : ℕ) → k < l.v → value_in (values_of l.sample) (var (leader_at l.leaders k)) ≡ value_in (values_of l.sample) (var k)
