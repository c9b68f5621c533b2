use Rattle.dk_core.proofs.Keeping.{AreGrowing}
use Rattle.dk_core.proofs.kept.with_new.Given as goal

abbrev pub invariant-loop-place : goal.invariant-loop-place
invariant-loop-place l = AreGrowing l.points l.grammar l.initial.engines.items l.engines.items l.place
