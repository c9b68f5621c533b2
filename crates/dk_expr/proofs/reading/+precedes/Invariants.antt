use Rattle.std.specs.Prelude.{length}
use Rattle.dk_expr.proofs.reading.+precedes.Given as goal

abbrev pub decreases-precedes : goal.decreases-precedes
decreases-precedes l = length l.vars.now
