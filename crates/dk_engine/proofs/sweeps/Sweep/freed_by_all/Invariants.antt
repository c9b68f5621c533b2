use Rattle.std.specs.Prelude.{◌≡◌, ◌++◌, take}
use Rattle.dk_engine.specs.Feeding.{read_after}
use Rattle.dk_engine.specs.Feeding.Narrow.{freed_by_all}
use Rattle.dk_engine.proofs.sweeps.Sweep.freed_by_all.Given as goal

abbrev pub invariant-loop-place : goal.invariant-loop-place
invariant-loop-place l = l.slots ≡ l.fn.slots ++ freed_by_all l.self.infos.now l.self.known.now (read_after l.self.answers.now.whole.kept l.self.answers.now.sample) l.leaders.all l.kept (take l.place-index l.lost)
