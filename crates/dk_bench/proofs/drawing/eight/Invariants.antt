use Rattle.std.specs.Prelude.{All, IsTrue}
use Rattle.dk_base.specs.Numbers.{fits_i64}
use Rattle.dk_bench.proofs.drawing.eight.Given as goal

abbrev pub invariant-loop-place : goal.invariant-loop-place
invariant-loop-place l = All (λ number. IsTrue (fits_i64 number)) l.numbers
