use Rattle.std.specs.Prelude.{◌≡◌, drop}
use Rattle.std.specs.List.{list_any}
use Rattle.dk_engine.specs.Feeding.Narrow.{may_begin}
use Rattle.dk_engine.proofs.feed.changes.some_may_begin.Given as goal

abbrev pub invariant-loop-change : goal.invariant-loop-change
invariant-loop-change l = list_any (may_begin l.slots) (drop l.change-index l.changes) ≡ list_any (may_begin l.slots) l.changes
