use Rattle.std.specs.Prelude.{◌-◌, ◌≤◌}
use Rattle.dk_engine.specs.Feeding.{read_after}
use Rattle.dk_engine.specs.Feeding.Narrow.{AreFoundBelow, outcome}
use Rattle.dk_engine.proofs.feed.changes.add_changes.Given as goal

abbrev pub invariant-loop-place : goal.invariant-loop-place
invariant-loop-place l =
    AreFoundBelow l.place (outcome l.fn.asked (read_after l.after.whole.kept l.after.sample) l.after.sample) l.slots l.found × (l.fn.from ≤ l.place) × (l.place ≤ l.to)

abbrev pub decreases-loop-place : goal.decreases-loop-place
decreases-loop-place l = l.to - l.place
