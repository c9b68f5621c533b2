use Rattle.std.specs.Prelude.{◌-◌, ◌≤◌, length}
use Rattle.dk_engine.specs.Feeding.{read_after}
use Rattle.dk_engine.specs.Feeding.Narrow.{AreFoundBelow, outcome}
use Rattle.dk_engine.proofs.feed.changes.few_changes.Given as goal

abbrev pub invariant-loop-place : goal.invariant-loop-place
invariant-loop-place l =
    AreFoundBelow l.place (outcome l.asked (read_after l.after.whole.kept l.after.sample) l.after.sample) l.slots l.found × (l.place ≤ length l.slots)

abbrev pub decreases-loop-place : goal.decreases-loop-place
decreases-loop-place l = length l.slots - l.place
