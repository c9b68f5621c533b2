use Rattle.std.specs.Prelude.{◌≡◌, ◌++◌, take}
use Rattle.dk_engine.specs.Feeding.{read_after}
use Rattle.dk_engine.specs.Sweeps.{triples}
use Rattle.dk_engine.proofs.sweeps.Sweep.triples.Given as goal

abbrev pub invariant-loop-v : goal.invariant-loop-v
invariant-loop-v l = l.slots ≡ l.fn.slots ++ triples l.self.infos.now l.self.known.now (read_after l.self.answers.now.whole.kept l.self.answers.now.sample) l.row (take l.v-index l.first) l.second l.third
