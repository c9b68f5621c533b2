use Rattle.std.proofs.Common.{◌≡◌, take}
use Rattle.dk_presence.specs.Patterns.{counted_by}
use Rattle.dk_presence.proofs.steps.sum_of.Given as goal

abbrev pub invariant-loop-pattern : goal.invariant-loop-pattern
invariant-loop-pattern l = l.sum ≡ counted_by (take l.pattern-index l.held) l.leaders
