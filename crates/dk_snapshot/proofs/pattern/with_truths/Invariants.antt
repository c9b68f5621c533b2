use Rattle.std.proofs.Common.{◌≡◌, map, take}
use Rattle.dk_snapshot.specs.Patterns.{pattern_of, seen}
use Rattle.dk_snapshot.proofs.pattern.with_truths.Given as goal

abbrev pub invariant-loop-pattern : goal.invariant-loop-pattern
invariant-loop-pattern l = map seen l.all.items ≡ map (pattern_of l.leaders) (take l.pattern-index l.held)
