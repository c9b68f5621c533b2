use Rattle.std.specs.Prelude.{◌≡◌, filter, take}
use Rattle.dk_classes.specs.Leaders.{own_leaders}
use Rattle.dk_engine.specs.Feeding.Step.{touches}
use Rattle.dk_engine.proofs.sweeps.touching.touching_leaders.Given as goal

abbrev pub invariant-loop-v : goal.invariant-loop-v
invariant-loop-v l = l.vars ≡ filter (touches l.now) (take l.v-index (own_leaders l.now.leaders))
