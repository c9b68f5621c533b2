use Rattle.std.proofs.Common.{◌≡◌, length}
use Rattle.dk_table.specs.Traces.{untold_row}
use Rattle.dk_table.proofs.writing.traces.untold_row.Given as goal

abbrev pub invariant-rows : goal.invariant-rows
invariant-rows l = untold_row l.kinds l.rows.left ≡ untold_row l.kinds l.fn.rows.left

abbrev pub decreases-rows : goal.decreases-rows
decreases-rows l = length l.rows.left
