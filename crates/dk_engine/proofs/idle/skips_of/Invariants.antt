use Rattle.dk_engine.specs.Idle.{AreNotes}
use Rattle.dk_engine.proofs.idle.skips_of.Given as goal

abbrev pub invariant-loop-behind : goal.invariant-loop-behind
invariant-loop-behind l = AreNotes l.watch l.slots l.skips.items
