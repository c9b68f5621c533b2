use Rattle.std.specs.Prelude.{◌≡◌, flat_map, take}
use Rattle.dk_instances.specs.Instances.{rows_of}
use Rattle.dk_report.specs.Narrowing.{candidates_left}
use Rattle.dk_report.proofs.asking.Asking.narrow_by.Given as goal

abbrev pub invariant-loop-n : goal.invariant-loop-n
invariant-loop-n l = l.list ≡ flat_map (candidates_left l.engine.kept l.self l.standing l.fixed) (take l.n (rows_of l.self.grammar))
