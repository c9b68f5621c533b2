use Rattle.std.proofs.Common.{◌≡◌, ◌+◌, length}
use Rattle.dk_table.proofs.tables.count_rows.Given as goal

abbrev pub invariant-rows : goal.invariant-rows
invariant-rows l = l.count + length l.rows.left ≡ length l.fn.rows.left

abbrev pub decreases-rows : goal.decreases-rows
decreases-rows l = length l.rows.left
