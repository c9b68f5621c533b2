use Rattle.std.specs.Prelude.{◌≡◌, map, take}
use Rattle.dk_verdicts.specs.Standing.{verdict_of}
use Rattle.dk_verdicts.proofs.checker.Checker.verdicts.Given as goal

abbrev pub invariant-loop-finding : goal.invariant-loop-finding
invariant-loop-finding l = l.verdicts ≡ map verdict_of (take l.finding-index l.finding-items)
