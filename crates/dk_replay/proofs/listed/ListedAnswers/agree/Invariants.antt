use Rattle.std.specs.Prelude.{◌≡◌, take, true}
use Rattle.std.specs.List.{list_all}
use Rattle.dk_base.specs.Values.SameValues.{same_value}
use Rattle.dk_replay.specs.Samples.{samples_of}
use Rattle.dk_samples.specs.Samples.{value_in}
use Rattle.dk_replay.proofs.listed.ListedAnswers.agree.Given as goal

abbrev pub invariant-loop-sample : goal.invariant-loop-sample
invariant-loop-sample l = list_all (λ s. same_value (value_in s l.v) (value_in s l.w)) (samples_of (take l.sample-index l.samples)) ≡ true
