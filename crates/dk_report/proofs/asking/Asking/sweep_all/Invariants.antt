use Rattle.std.specs.Prelude.{◌≡◌, flat_map, take}
use Rattle.dk_instances.specs.Instances.{rows_of}
use Rattle.dk_report.specs.Asked.{candidates_standing}
use Rattle.dk_report.proofs.asking.Asking.sweep_all.Given as goal

abbrev pub invariant-loop-n : goal.invariant-loop-n
invariant-loop-n l = l.list ≡ flat_map (candidates_standing l.self l.standing) (take l.n (rows_of l.self.grammar))
