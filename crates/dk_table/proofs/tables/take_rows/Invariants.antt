use Rattle.std.proofs.Common.{◌≡◌, length}
use Rattle.dk_table.specs.Columns.Judging.{judging_all}
use Rattle.dk_table.specs.Tables.{uneven_row}
use Rattle.dk_table.proofs.tables.take_rows.Given as goal

abbrev pub invariant-rows : goal.invariant-rows
invariant-rows l = (uneven_row l.columns l.rows.left ≡ uneven_row l.columns l.fn.rows.left) × (judging_all l.judge l.rows.left ≡ judging_all l.fn.judge l.fn.rows.left)

abbrev pub decreases-rows : goal.decreases-rows
decreases-rows l = length l.rows.left
