use Rattle.dk_table.proofs.Traced.{tables_read}
use Rattle.dk_table.proofs.laws.tables_are_read.Goals as goal

pub returns : goal.returns
returns c = tables_read
