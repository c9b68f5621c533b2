use Rattle.std.specs.Prelude.{◌≡◌, flat_map, take}
use Rattle.dk_instances.specs.Instances.{rows_of}
use Rattle.dk_join.specs.Joining.{answer_of}
use Rattle.dk_engine.specs.Feeding.{slots_of_row}
use Rattle.dk_join.proofs.sweeps.Sweep.all.Given as goal

abbrev pub invariant-loop-n : goal.invariant-loop-n
invariant-loop-n l = l.slots ≡ flat_map (slots_of_row l.self.both.now.first.infos l.leaders l.self.known.now (answer_of l.self.both.now)) (take l.n (rows_of l.fn.grammar))
