use Rattle.std.proofs.Common.{◌≡◌, drop}
use Rattle.dk_table.specs.Columns.Judging.{judging_rows}
use Rattle.dk_table.specs.Tables.{rows_of_all}
use Rattle.dk_table.proofs.tables.take_files.Given as goal

abbrev pub invariant-loop-file : goal.invariant-loop-file
invariant-loop-file l = judging_rows l.fn.judge (rows_of_all l.command l.names 0 l.files) ≡ judging_rows l.judge (rows_of_all l.command l.names l.file (drop l.file l.files))
