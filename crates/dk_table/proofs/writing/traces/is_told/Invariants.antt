use Rattle.std.proofs.Common.{◌≡◌, drop, is_some}
use Rattle.std.specs.List.{list_all, zip}
use Rattle.dk_table.specs.Columns.{cell_value}
use Rattle.dk_table.proofs.writing.traces.is_told.Given as goal

abbrev pub invariant-loop-i : goal.invariant-loop-i
invariant-loop-i l = list_all (λ e. is_some (cell_value e.0 e.1)) (drop l.i (zip l.kinds l.rows.row.cells)) ≡ list_all (λ e. is_some (cell_value e.0 e.1)) (zip l.kinds l.rows.row.cells)
