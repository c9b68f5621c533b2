use Rattle.std.specs.Prelude.{◌≡◌, None, drop}
use Rattle.dk_base.specs.Values.{values_of}
use Rattle.dk_engine.specs.Idle.{are_rising}
use Rattle.dk_engine.proofs.idle.chain.are_rising.Given as goal

abbrev pub invariant-loop-v : goal.invariant-loop-v
invariant-loop-v l = are_rising (values_of l.sample) l.last (drop l.v-index l.rising) ≡ are_rising (values_of l.sample) None l.rising
