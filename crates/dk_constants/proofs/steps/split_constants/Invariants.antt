use Rattle.std.proofs.Common.{◌≡◌, ◌≢◌}
use Rattle.dk_base.specs.Values.{values_of}
use Rattle.dk_samples.specs.Samples.{value_in}
use Rattle.dk_constants.specs.Known.{IsParted}
use Rattle.dk_constants.proofs.steps.split_constants.Given as goal

abbrev pub invariant-loop-v : goal.invariant-loop-v
invariant-loop-v l = IsParted (λ k. value_in (values_of l.sample) k.0 ≡ k.1) (λ k. value_in (values_of l.sample) k.0 ≢ k.1) l.yielded l.still.items l.over
