use Rattle.std.specs.Prelude.{◌≡◌, ◌++◌, map, take}
use Rattle.dk_join.specs.Joining.{answer_of}
use Rattle.dk_engine.specs.Sweeps.{behind}
use Rattle.dk_join.proofs.sweeps.Sweep.behind.Given as goal

abbrev pub invariant-loop-w : goal.invariant-loop-w
invariant-loop-w l = l.slots ≡ l.initial.slots ++ behind l.self.both.now.first.infos l.self.known.now (answer_of l.self.both.now) l.row l.first.var (map (λ w. w.leader) (take l.w-index l.w-items)) l.leaders
