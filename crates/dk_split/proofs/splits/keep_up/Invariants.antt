use Rattle.dk_split.proofs.Keeping.{AreGrowing}
use Rattle.dk_split.proofs.splits.keep_up.Given as goal

abbrev pub invariant-loop-place : goal.invariant-loop-place
invariant-loop-place l = AreGrowing l.points l.fn.splits.items l.splits.items l.place
