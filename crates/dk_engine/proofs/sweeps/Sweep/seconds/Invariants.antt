use Rattle.std.specs.Prelude.{◌≡◌, ◌++◌, take}
use Rattle.dk_engine.specs.Feeding.{read_after}
use Rattle.dk_engine.specs.Sweeps.{seconds}
use Rattle.dk_engine.proofs.sweeps.Sweep.seconds.Given as goal

abbrev pub invariant-loop-w : goal.invariant-loop-w
invariant-loop-w l = l.slots ≡ l.fn.slots ++ seconds l.self.infos.now l.self.known.now (read_after l.self.answers.now.whole.kept l.self.answers.now.sample) l.row l.v (take l.w-index l.second)
