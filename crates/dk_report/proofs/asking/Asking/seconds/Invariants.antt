use Rattle.std.specs.Prelude.{◌≡◌, ◌++◌, take}
use Rattle.dk_report.specs.Asked.{listed_candidates_by}
use Rattle.dk_report.specs.Sweeps.{seconds}
use Rattle.dk_report.proofs.asking.Asking.seconds.Given as goal

abbrev pub invariant-loop-w : goal.invariant-loop-w
invariant-loop-w l = l.list ≡ l.initial.list ++ seconds (listed_candidates_by l.self l.row) l.v (take l.w-index l.second)
