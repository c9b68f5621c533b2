use Rattle.std.specs.Prelude.{◌≡◌, ◌++◌, take}
use Rattle.dk_report.specs.Asked.{listed_candidates_by}
use Rattle.dk_report.specs.Sweeps.{firsts}
use Rattle.dk_report.proofs.asking.Asking.firsts.Given as goal

abbrev pub invariant-loop-v : goal.invariant-loop-v
invariant-loop-v l = l.list ≡ l.initial.list ++ firsts (listed_candidates_by l.self l.row) (take l.v-index l.first)
