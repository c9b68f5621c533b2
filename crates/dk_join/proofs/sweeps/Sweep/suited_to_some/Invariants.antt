use Rattle.std.specs.Prelude.{◌≡◌, take}
use Rattle.dk_join.specs.Suited.{suited_to_some}
use Rattle.dk_join.proofs.sweeps.Sweep.suited_to_some.Given as goal

abbrev pub invariant-loop-v : goal.invariant-loop-v
invariant-loop-v l = l.list ≡ suited_to_some l.a l.b l.c l.self.both.now.first.infos (take l.v-index l.leaders)
