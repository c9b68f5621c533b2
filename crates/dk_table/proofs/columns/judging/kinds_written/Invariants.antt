use Rattle.std.proofs.Common.{◌≡◌, is_some, take}
use Rattle.std.specs.Prelude.{filter}
use Rattle.dk_table.specs.Columns.{cell_value}
use Rattle.dk_table.proofs.columns.judging.kinds_written.Given as goal

abbrev pub invariant-loop-kind : goal.invariant-loop-kind
invariant-loop-kind l = l.written ≡ filter (λ k. is_some (cell_value k l.cell)) (take l.kind-index l.kinds)
