use Rattle.std.proofs.Common.{◌≡◌, drop, is_some}
use Rattle.std.specs.List.{list_all}
use Rattle.dk_table.specs.Columns.{cell_value}
use Rattle.dk_table.proofs.columns.judging.writes_all.Given as goal

abbrev pub invariant-loop-kind : goal.invariant-loop-kind
invariant-loop-kind l = list_all (λ k. is_some (cell_value k l.cell)) (drop l.kind-index l.kinds) ≡ list_all (λ k. is_some (cell_value k l.cell)) l.kinds
