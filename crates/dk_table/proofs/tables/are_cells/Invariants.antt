use Rattle.std.proofs.Common.{◌≡◌, drop}
use Rattle.std.specs.List.{list_all, zip}
use Rattle.std.specs.Str.{bytes_eq}
use Rattle.dk_table.proofs.tables.are_cells.Given as goal

abbrev pub invariant-loop-i : goal.invariant-loop-i
invariant-loop-i l = list_all (λ e. bytes_eq e.0 e.1) (drop l.i (zip l.names l.rows.row.cells)) ≡ list_all (λ e. bytes_eq e.0 e.1) (zip l.names l.rows.row.cells)
