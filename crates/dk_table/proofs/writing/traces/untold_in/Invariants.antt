use Rattle.std.proofs.Common.{◌≡◌, drop}
use Rattle.dk_table.specs.Tables.{bodies_in}
use Rattle.dk_table.specs.Traces.{untold_row}
use Rattle.dk_table.proofs.writing.traces.untold_in.Given as goal

abbrev pub invariant-loop-file : goal.invariant-loop-file
invariant-loop-file l = untold_row l.kinds (bodies_in l.command l.file (drop l.file l.files)) ≡ untold_row l.kinds (bodies_in l.command 0 l.files)
