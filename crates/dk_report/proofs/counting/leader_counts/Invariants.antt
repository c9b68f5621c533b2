use Rattle.std.specs.Prelude.{[], ◌∷◌, take}
use Rattle.dk_presence.specs.Patterns.{counted_by}
use Rattle.dk_report.specs.Counting.{AreAt}
use Rattle.dk_report.proofs.counting.leader_counts.Given as goal

abbrev pub invariant-loop-pattern : goal.invariant-loop-pattern
invariant-loop-pattern l = AreAt (λ v. counted_by (take l.pattern-index l.held) (v ∷ [])) l.counts.items
