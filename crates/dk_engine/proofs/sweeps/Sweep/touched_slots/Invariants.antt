use Rattle.std.specs.Prelude.{◌≡◌, flat_map, take}
use Rattle.dk_instances.specs.Instances.{rows_of}
use Rattle.dk_engine.specs.Feeding.{read_after}
use Rattle.dk_engine.specs.Sweeps.{with_one}
use Rattle.dk_engine.proofs.sweeps.Sweep.touched_slots.Given as goal

abbrev pub invariant-loop-n : goal.invariant-loop-n
invariant-loop-n l = l.slots ≡ flat_map (λ row. with_one l.self.infos.now l.self.known.now (read_after l.self.answers.now.whole.kept l.self.answers.now.sample) row l.touching l.others l.leaders.all) (take l.n (rows_of l.fn.grammar))
