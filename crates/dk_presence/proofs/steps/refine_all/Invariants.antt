use Rattle.std.proofs.Common.{◌≡◌, take, map}
use Rattle.dk_presence.specs.Steps.{refined}
use Rattle.dk_presence.proofs.steps.refine_all.Given as goal

abbrev pub invariant-loop-pattern : goal.invariant-loop-pattern
invariant-loop-pattern l = l.all.items ≡ map (refined l.new) (take l.pattern-index l.fn.held.items)
