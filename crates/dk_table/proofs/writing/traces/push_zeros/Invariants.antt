use Rattle.std.proofs.Common.{◌≡◌, ◌++◌, replicate}
use Rattle.dk_table.proofs.writing.traces.push_zeros.Given as goal

abbrev pub invariant-loop-place : goal.invariant-loop-place
invariant-loop-place l = l.text ≡ l.fn.text ++ replicate l._place 48
