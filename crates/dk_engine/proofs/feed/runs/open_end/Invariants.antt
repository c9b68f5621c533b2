use Rattle.std.specs.Prelude.{◌≡◌, ◌<◌, ◌≤◌, ℕ, true}
use Rattle.dk_engine.specs.Feeding.Narrow.{is_in_run}
use Rattle.dk_engine.specs.Reading.Parts.{slot_in}
use Rattle.dk_engine.proofs.feed.runs.open_end.Given as goal

abbrev pub invariant-loop-other : goal.invariant-loop-other
invariant-loop-other l = (k : ℕ) → l.place ≤ k → k < l.other → is_in_run true (slot_in l.slots l.place).row (slot_in l.slots k) ≡ true
