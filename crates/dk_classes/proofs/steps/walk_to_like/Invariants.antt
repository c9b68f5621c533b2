use Rattle.std.proofs.Common.{◌≡◌, ◌≢◌, take}
use Rattle.std.specs.List.{All}
use Rattle.dk_base.specs.Values.{value_of, values_of}
use Rattle.dk_samples.specs.Samples.{value_in}
use Rattle.dk_classes.proofs.steps.walk_to_like.Given as goal

abbrev pub invariant-loop-pair : goal.invariant-loop-pair
invariant-loop-pair l = All (λ n. n.1 ≡ l.old → value_in (values_of l.sample) n.0 ≢ value_of l.value) (take l.pair-index l.new)
