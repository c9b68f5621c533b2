use Rattle.std.proofs.Common.{◌≡◌, map, take}
use Rattle.dk_table.specs.Columns.Judging.{kind_by}
use Rattle.dk_table.proofs.columns.judging.Judge.kinds.Given as goal

abbrev pub invariant-loop-column : goal.invariant-loop-column
invariant-loop-column l = l.kinds ≡ map kind_by (take l.column-index l.self.columns)
