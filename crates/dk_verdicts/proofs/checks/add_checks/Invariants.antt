use Rattle.std.specs.Prelude.{take}
use Rattle.dk_verdicts.specs.Checks.{AreWithChecks}
use Rattle.dk_verdicts.proofs.checks.add_checks.Given as goal

abbrev pub invariant-loop-way : goal.invariant-loop-way
invariant-loop-way l = AreWithChecks l.claim l.vars (take l.way-index l.ways) l.fn.checks.items l.checks.items
