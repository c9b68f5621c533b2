use Rattle.std.specs.Prelude.{◌≡◌, flat_map, take}
use Rattle.dk_instances.specs.Instances.{rows_of}
use Rattle.dk_engine.specs.Feeding.{read_after, slots_of_row}
use Rattle.dk_engine.proofs.sweeps.Sweep.all.Given as goal

abbrev pub invariant-loop-n : goal.invariant-loop-n
invariant-loop-n l = l.slots ≡ flat_map (slots_of_row l.self.infos.now l.leaders l.self.known.now (read_after l.self.answers.now.whole.kept l.self.answers.now.sample)) (take l.n (rows_of l.fn.grammar))
