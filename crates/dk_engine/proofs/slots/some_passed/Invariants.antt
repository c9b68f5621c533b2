use Rattle.std.specs.Prelude.{◌≡◌, drop}
use Rattle.std.specs.List.{list_any}
use Rattle.dk_engine.specs.Idle.{is_passed}
use Rattle.dk_engine.specs.declared.feed.changes.Change.{Change}
use Rattle.dk_engine.proofs.slots.some_passed.Given as goal

abbrev pub invariant-loop-change : goal.invariant-loop-change
invariant-loop-change l = list_any (λ (c : Change). is_passed l.skips c.place) (drop l.change-index l.changes) ≡ list_any (λ (c : Change). is_passed l.skips c.place) l.changes
