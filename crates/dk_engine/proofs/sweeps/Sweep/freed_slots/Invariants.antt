use Rattle.std.specs.Prelude.{◌≡◌, ◌++◌, flat_map, take}
use Rattle.dk_engine.specs.Feeding.{read_after}
use Rattle.dk_engine.specs.Sweeps.{with_both}
use Rattle.dk_engine.proofs.sweeps.Sweep.freed_slots.Given as goal

abbrev pub invariant-loop-freed : goal.invariant-loop-freed
invariant-loop-freed l = l.slots ≡ l.fn.slots ++ flat_map (λ row. with_both l.self.infos.now l.self.known.now (read_after l.self.answers.now.whole.kept l.self.answers.now.sample) row l.lost l.leaders.all) (take l.freed-index l.freed-items)
