use Rattle.std.specs.Prelude.{◌≡◌, filter}
use Rattle.dk_filters.specs.Found.{vars_below}
use Rattle.dk_report.specs.Asked.{has_enough}
use Rattle.dk_report.proofs.asking.Asking.vars_with_enough.Given as goal

abbrev pub invariant-loop-n : goal.invariant-loop-n
invariant-loop-n l = l.list ≡ filter (has_enough l.self) (vars_below l.n)
