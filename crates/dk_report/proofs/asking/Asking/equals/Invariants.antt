use Rattle.std.specs.Prelude.{◌≡◌, ◌++◌, take}
use Rattle.dk_report.specs.Asked.{listed_candidates_by}
use Rattle.dk_report.specs.Listing.{may_equal}
use Rattle.dk_report.specs.Sweeps.{equals}
use Rattle.dk_report.proofs.asking.Asking.equals.Given as goal

abbrev pub invariant-loop-w : goal.invariant-loop-w
invariant-loop-w l =
    l.list ≡ l.initial.list ++ equals (listed_candidates_by l.self l.row) (may_equal l.self.options.now l.self.found.now) l.v (take l.w-index l.second)
