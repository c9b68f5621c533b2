use Rattle.dk_table.proofs.Cutting.{unquoted_paired}
use Rattle.dk_table.proofs.tables.are_paired.Goals as goal

pub returns-then-is_unquoted : goal.returns-then-is_unquoted
returns-then-is_unquoted c = unquoted_paired c.args.bytes.now (c.is_unquoted.ensures c.if-is_unquoted.true)
