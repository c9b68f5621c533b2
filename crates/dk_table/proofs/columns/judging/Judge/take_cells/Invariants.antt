use Rattle.std.proofs.Common.{◌≡◌, ◌++◌, drop, take}
use Rattle.dk_table.specs.Columns.Judging.{with_row}
use Rattle.dk_table.proofs.columns.judging.Judge.take_cells.Given as goal

abbrev pub invariant-loop-place : goal.invariant-loop-place
invariant-loop-place l =
    (l.self-inside.left ≡ l.fn.self.left) × (l.self-inside.columns.items ≡ take l.place (with_row l.fn.self.columns l.rows.row) ++ drop l.place l.fn.self.columns)
