use Rattle.std.specs.Prelude.{◌≡◌, ◌++◌, take}
use Rattle.dk_report.specs.Asked.{listed_candidates_by}
use Rattle.dk_report.specs.Sweeps.{thirds}
use Rattle.dk_report.proofs.asking.Asking.thirds.Given as goal

abbrev pub invariant-loop-x : goal.invariant-loop-x
invariant-loop-x l = l.list ≡ l.initial.list ++ thirds (listed_candidates_by l.self l.row) l.v l.w (take l.x-index l.third)
