use Rattle.std.specs.Prelude.{◌≡◌, ◌++◌, take}
use Rattle.dk_report.specs.Asked.{listed_candidates_by}
use Rattle.dk_report.specs.Sweeps.{pairs}
use Rattle.dk_report.proofs.asking.Asking.pairs.Given as goal

abbrev pub invariant-loop-v : goal.invariant-loop-v
invariant-loop-v l = l.list ≡ l.initial.list ++ pairs (listed_candidates_by l.self l.row) (take l.v-index l.first) l.second
