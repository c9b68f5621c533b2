use Rattle.std.specs.Prelude.{◌≡◌, sum_by, take}
use Rattle.dk_presence.specs.Patterns.{capped}
use Rattle.dk_hierarchy.specs.Merging.{count_through}
use Rattle.dk_report.proofs.counting.Counted.indexed_count.Given as goal

abbrev pub invariant-loop-place : goal.invariant-loop-place
invariant-loop-place l = l.count ≡ capped (sum_by (count_through l.self l.vars) (take l.place l.ways))
