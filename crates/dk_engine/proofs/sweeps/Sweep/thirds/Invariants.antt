use Rattle.std.specs.Prelude.{◌≡◌, ◌++◌, take}
use Rattle.dk_engine.specs.Feeding.{read_after}
use Rattle.dk_engine.specs.Sweeps.{thirds}
use Rattle.dk_engine.proofs.sweeps.Sweep.thirds.Given as goal

abbrev pub invariant-loop-x : goal.invariant-loop-x
invariant-loop-x l = l.slots ≡ l.fn.slots ++ thirds l.self.infos.now l.self.known.now (read_after l.self.answers.now.whole.kept l.self.answers.now.sample) l.row l.v l.w (take l.x-index l.third)
