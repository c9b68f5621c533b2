use Rattle.std.specs.Prelude.{take}
use Rattle.dk_join.specs.Tallies.{AreAdded}
use Rattle.dk_join.proofs.patterns.with_patterns.Given as goal

abbrev pub invariant-loop-pattern : goal.invariant-loop-pattern
invariant-loop-pattern l = AreAdded l.old l.leaders (take l.pattern-index l.held) l.initial.tally l.tally
