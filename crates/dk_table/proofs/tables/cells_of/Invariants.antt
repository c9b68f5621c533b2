use Rattle.std.proofs.Common.{◌≡◌, take}
use Rattle.dk_table.proofs.tables.cells_of.Given as goal

abbrev pub invariant-loop-place : goal.invariant-loop-place
invariant-loop-place l = l.cells ≡ take l.place l.rows.row.cells
