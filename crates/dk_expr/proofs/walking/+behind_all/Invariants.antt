use Rattle.std.specs.Prelude.{length}
use Rattle.dk_expr.proofs.walking.+behind_all.Given as goal

abbrev pub decreases-behind_all : goal.decreases-behind_all
decreases-behind_all l = length l.parts.now
