use Rattle.std.proofs.Common.{◌≡◌, take, map}
use Rattle.dk_base.specs.Values.{values_of}
use Rattle.dk_samples.specs.Samples.{value_in}
use Rattle.dk_constants.proofs.constants.Constants.first.Given as goal

abbrev pub invariant-loop-v : goal.invariant-loop-v
invariant-loop-v l = l.known.items ≡ map (λ v. (v, value_in (values_of l.sample) v)) (take l.v-index l.leaders)
