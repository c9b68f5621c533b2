use Rattle.std.specs.Prelude.{◌≡◌, sum_by, take}
use Rattle.dk_presence.specs.Patterns.{capped}
use Rattle.dk_hierarchy.specs.Merging.{count_through}
use Rattle.dk_hierarchy.proofs.merged.MergedAnswers.count.Given as goal

abbrev pub invariant-loop-way : goal.invariant-loop-way
invariant-loop-way l = l.count ≡ capped (sum_by (count_through l.self l.vars) (take l.way-index l.ways))
