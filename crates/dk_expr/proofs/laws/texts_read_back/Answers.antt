use Rattle.dk_expr.proofs.Unique.{texts_read_back}
use Rattle.dk_expr.proofs.laws.texts_read_back.Goals as goal

pub returns : goal.returns
returns c = texts_read_back
