use Rattle.std.proofs.Common.{◌≡◌, drop}
use Rattle.std.specs.List.{list_all}
use Rattle.dk_presence.specs.Patterns.{has}
use Rattle.dk_engine.proofs.saved.bitmaps.has_each.Given as goal

abbrev pub invariant-loop-v : goal.invariant-loop-v
invariant-loop-v l = list_all (has l.pattern.leaders) (drop l.v-index l.vars) ≡ list_all (has l.pattern.leaders) l.vars
