use Rattle.dk_verdicts.proofs.Engines.{AreFirstUnfed}
use Rattle.dk_verdicts.proofs.reading.add_engines.Given as goal

abbrev pub invariant-loop-place : goal.invariant-loop-place
invariant-loop-place l = AreFirstUnfed l.points l.engines.items l.place
