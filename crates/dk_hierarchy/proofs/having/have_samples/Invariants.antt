use Rattle.dk_hierarchy.proofs.Marks.{IsGoing, to_do}
use Rattle.dk_hierarchy.proofs.having.have_samples.Given as goal

abbrev pub invariant-loop-child : goal.invariant-loop-child
invariant-loop-child l = IsGoing l.points l.engines l.marks.items l.waiting.items

abbrev pub decreases-loop-child : goal.decreases-loop-child
decreases-loop-child l = to_do (record { marks = l.marks.items; waiting = l.waiting.items })
