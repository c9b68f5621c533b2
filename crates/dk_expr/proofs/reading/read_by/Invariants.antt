use Rattle.dk_expr.proofs.FirstRead.{NoneBelow}
use Rattle.dk_expr.proofs.reading.read_by.Given as goal

abbrev pub invariant-loop-row : goal.invariant-loop-row
invariant-loop-row l = NoneBelow l.vars l.text l.row
