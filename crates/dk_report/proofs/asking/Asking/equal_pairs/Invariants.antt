use Rattle.std.specs.Prelude.{◌≡◌, ◌++◌, take}
use Rattle.dk_report.specs.Asked.{listed_candidates_by}
use Rattle.dk_report.specs.Listing.{may_equal}
use Rattle.dk_report.specs.Sweeps.{equal_pairs}
use Rattle.dk_report.proofs.asking.Asking.equal_pairs.Given as goal

abbrev pub invariant-loop-v : goal.invariant-loop-v
invariant-loop-v l =
    l.list ≡ l.initial.list ++ equal_pairs (listed_candidates_by l.self l.row) (may_equal l.self.options.now l.self.found.now) (take l.v-index l.first) l.second
