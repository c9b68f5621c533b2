use Rattle.std.specs.Prelude.{◌≡◌, drop}
use Rattle.std.specs.List.{list_any}
use Rattle.dk_engine.specs.Feeding.Narrow.{loses_by}
use Rattle.dk_engine.proofs.feed.changes.lose_some.Given as goal

abbrev pub invariant-loop-change : goal.invariant-loop-change
invariant-loop-change l = list_any (loses_by l.slots) (drop l.change-index l.changes) ≡ list_any (loses_by l.slots) l.changes
