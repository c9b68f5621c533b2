use Rattle.std.specs.Prelude.{◌-◌, ◌≤◌}
use Rattle.dk_engine.proofs.Running.{AreStill}
use Rattle.dk_engine.proofs.feed.runs.still_among.Given as goal

abbrev pub invariant-loop-place : goal.invariant-loop-place
invariant-loop-place l = AreStill l.row l.after.sample l.slots l.from l.place × (l.from ≤ l.place) × (l.place ≤ l.to)

abbrev pub decreases-loop-place : goal.decreases-loop-place
decreases-loop-place l = l.to - l.place
