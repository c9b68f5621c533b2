use Rattle.std.specs.Prelude.{◌≡◌, ◌++◌, take}
use Rattle.dk_join.specs.Joining.{answer_of}
use Rattle.dk_engine.specs.Sweeps.{triples}
use Rattle.dk_join.proofs.sweeps.Sweep.triples.Given as goal

abbrev pub invariant-loop-v : goal.invariant-loop-v
invariant-loop-v l = l.slots ≡ l.initial.slots ++ triples l.self.both.now.first.infos l.self.known.now (answer_of l.self.both.now) l.row (take l.v-index l.leaders) l.leaders l.leaders
