use Rattle.std.specs.Prelude.{All}
use Rattle.dk_base.specs.Values.{values_of}
use Rattle.dk_base.specs.Values.Spelling.{IsWritten}
use Rattle.dk_bench.proofs.drawing.mixed.Given as goal

abbrev pub invariant-loop : goal.invariant-loop
invariant-loop l = All IsWritten (values_of l.sample.items)
