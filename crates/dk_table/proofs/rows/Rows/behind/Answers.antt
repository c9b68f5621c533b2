use Rattle.std.proofs.Common.{◌+◌, ap, arith, length}
use Rattle.dk_table.specs.Tables.{config_by}
use Rattle.dk_table.proofs.AllRecords.{few_placed}
use Rattle.dk_table.proofs.rows.Rows.behind.Goals as goal

pub returns-then-is_unquoted-clause-few : goal.returns-then-is_unquoted-clause-few
returns-then-is_unquoted-clause-few c =
    omega (arith, ap length c.new-lines.ensures.left, ap length c.as_slice.ensures, few_placed (config_by c.args.separator) c.args.file (c.args.front + 1) c.as_slice.result.now, c.requires)
