use Rattle.std.proofs.Common.{◌≡◌, take}
use Rattle.std.specs.List.{All}
use Rattle.dk_base.specs.Values.{values_of}
use Rattle.dk_samples.specs.Samples.{value_in}
use Rattle.dk_constants.proofs.steps.are_still.Given as goal

abbrev pub invariant-loop-v : goal.invariant-loop-v
invariant-loop-v l = All (λ k. value_in (values_of l.sample) k.0 ≡ k.1) (take l.v-index l.known)
