use Rattle.std.specs.Prelude.{◌≡◌, ◌||◌, filter, map, take}
use Rattle.dk_report.specs.Viewing.{may_follow}
use Rattle.dk_report.proofs.viewing.told_row.Given as goal

abbrev pub invariant-loop-pair : goal.invariant-loop-pair
invariant-loop-pair l = l.list ≡ map (λ pair. pair.0) (filter (λ pair. pair.1 || may_follow l.below l.row pair.0) (take l.pair-index l.shown))
