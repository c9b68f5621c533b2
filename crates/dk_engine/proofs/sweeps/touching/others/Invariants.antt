use Rattle.std.specs.Prelude.{◌≡◌, filter, not, take}
use Rattle.dk_classes.specs.Leaders.{own_leaders}
use Rattle.dk_engine.specs.Feeding.Step.{touches}
use Rattle.dk_engine.proofs.sweeps.touching.others.Given as goal

abbrev pub invariant-loop-v : goal.invariant-loop-v
invariant-loop-v l = l.vars ≡ filter (λ v. not (touches l.now v)) (take l.v-index (own_leaders l.now.leaders))
