use Rattle.std.specs.Prelude.{◌≡◌, take}
use Rattle.dk_engine.specs.Feeding.Narrow.{lost_places}
use Rattle.dk_engine.proofs.feed.changes.lost_places.Given as goal

abbrev pub invariant-loop-change : goal.invariant-loop-change
invariant-loop-change l = l.lost ≡ lost_places l.slots (take l.change-index l.changes)
