use Rattle.dk_print.proofs.Alike.{rows_alike}
use Rattle.dk_print.proofs.laws.rows_alike_take_other_kinds.Goals as goal

pub returns : goal.returns
returns c = rows_alike
