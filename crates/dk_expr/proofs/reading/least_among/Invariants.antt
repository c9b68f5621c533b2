use Rattle.dk_expr.proofs.FirstRead.{IsLeastUpTo}
use Rattle.dk_expr.proofs.reading.least_among.Given as goal

abbrev pub invariant-loop-found : goal.invariant-loop-found
invariant-loop-found l = IsLeastUpTo l.infos l.text l.row l.ends l.least l.found-index
