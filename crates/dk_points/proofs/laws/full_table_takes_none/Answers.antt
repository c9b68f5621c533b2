use Rattle.dk_points.proofs.FullTables.{full-table}
use Rattle.dk_points.proofs.laws.full_table_takes_none.Goals as goal

pub returns : goal.returns
returns c = full-table
