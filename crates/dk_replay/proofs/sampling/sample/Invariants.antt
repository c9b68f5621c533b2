use Rattle.std.specs.Prelude.{All}
use Rattle.dk_base.specs.Values.{values_of}
use Rattle.dk_base.specs.Values.Spelling.{IsWritten}
use Rattle.dk_replay.proofs.sampling.sample.Given as goal

abbrev pub invariant-loop-place : goal.invariant-loop-place
invariant-loop-place l = All IsWritten (values_of l.sample)
