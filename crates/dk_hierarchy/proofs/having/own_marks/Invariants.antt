use Rattle.std.specs.Prelude.{◌≡◌, ◌++◌, drop, map}
use Rattle.dk_hierarchy.specs.Having.{keeps_some}
use Rattle.dk_hierarchy.proofs.having.own_marks.Given as goal

abbrev pub invariant-loop-engine : goal.invariant-loop-engine
invariant-loop-engine l = l.marks.items ++ map keeps_some (drop l.engine-index l.engines) ≡ map keeps_some l.engines
