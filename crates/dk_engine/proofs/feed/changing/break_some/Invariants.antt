use Rattle.std.specs.Prelude.{◌≡◌, drop}
use Rattle.std.specs.List.{list_any}
use Rattle.dk_engine.specs.Feeding.{is_broken}
use Rattle.dk_engine.specs.declared.feed.changes.Change.{Change}
use Rattle.dk_engine.proofs.feed.changing.break_some.Given as goal

abbrev pub invariant-loop-change : goal.invariant-loop-change
invariant-loop-change l = list_any (λ (c : Change). is_broken c.state) (drop l.change-index l.changes) ≡ list_any (λ (c : Change). is_broken c.state) l.changes
