use Rattle.std.proofs.Common.{◌≡◌, take, true}
use Rattle.dk_presence.specs.Patterns.{has_all}
use Rattle.dk_presence.proofs.steps.contains_all.Given as goal

abbrev pub invariant-loop-v : goal.invariant-loop-v
invariant-loop-v l = has_all l.vars (take l.v-index l.all) ≡ true
