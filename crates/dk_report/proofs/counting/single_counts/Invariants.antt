use Rattle.std.specs.Prelude.{[], ◌∷◌, sum_by, take}
use Rattle.dk_hierarchy.specs.Merging.{count_through}
use Rattle.dk_presence.specs.Patterns.{capped}
use Rattle.dk_report.specs.Counting.{AreFound}
use Rattle.dk_report.proofs.counting.single_counts.Given as goal

abbrev pub invariant-loop-way : goal.invariant-loop-way
invariant-loop-way l = AreFound (λ v. capped (sum_by (count_through l.merged (record { 0 = v } ∷ [])) (take l.way-index l.ways))) l.found.items
