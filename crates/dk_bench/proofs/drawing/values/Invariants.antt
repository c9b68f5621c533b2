use Rattle.std.specs.Prelude.{All}
use Rattle.dk_base.specs.Values.{values_of}
use Rattle.dk_base.specs.Values.Spelling.{IsWritten}
use Rattle.dk_bench.proofs.drawing.values.Given as goal

abbrev pub invariant-loop-number : goal.invariant-loop-number
invariant-loop-number l = All IsWritten (values_of l.sample.items)
