use Rattle.std.proofs.Common.{◌≡◌, replicate}
use Rattle.dk_table.specs.Columns.Judging.{fresh_column}
use Rattle.dk_table.proofs.columns.judging.Judge.new.Given as goal

abbrev pub invariant-loop-place : goal.invariant-loop-place
invariant-loop-place l = l.fresh.items ≡ replicate l._place fresh_column
