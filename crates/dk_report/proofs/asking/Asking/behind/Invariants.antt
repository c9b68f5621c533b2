use Rattle.std.specs.Prelude.{◌≡◌, ◌++◌, take}
use Rattle.dk_report.specs.Asked.{listed_candidates_by}
use Rattle.dk_report.specs.Sweeps.{behind}
use Rattle.dk_report.proofs.asking.Asking.behind.Given as goal

abbrev pub invariant-loop-w : goal.invariant-loop-w
invariant-loop-w l = l.list ≡ l.initial.list ++ behind (listed_candidates_by l.self l.row) l.v (take l.w-index l.second) l.third
