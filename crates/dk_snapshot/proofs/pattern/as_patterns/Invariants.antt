use Rattle.std.proofs.Common.{◌≡◌, map}
use Rattle.dk_snapshot.specs.Patterns.{seen}
use Rattle.dk_snapshot.proofs.pattern.as_patterns.Given as goal

abbrev pub invariant-loop-present : goal.invariant-loop-present
invariant-loop-present l = l.patterns ≡ map seen l.yielded
