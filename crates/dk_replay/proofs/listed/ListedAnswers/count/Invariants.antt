use Rattle.std.specs.Prelude.{◌≡◌, take}
use Rattle.dk_presence.specs.Patterns.{count_of}
use Rattle.dk_replay.specs.Samples.{samples_of}
use Rattle.dk_replay.proofs.listed.ListedAnswers.count.Given as goal

abbrev pub invariant-loop-sample : goal.invariant-loop-sample
invariant-loop-sample l = l.count ≡ count_of l.vars (samples_of (take l.sample-index l.samples))
