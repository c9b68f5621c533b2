use Rattle.std.specs.Prelude.{◌<◌, ℕ, All}
use Rattle.std.proofs.Common.{get_or}
use Rattle.dk_engine.specs.Reading.Levels.{Whole}
use Rattle.dk_state.specs.Fitting.{FitsSlot}
use Rattle.dk_merging.specs.Engines.{IsSound}
use Rattle.dk_merging.proofs.numbers.read_engines.Given as goal

abbrev pub invariant-loop-engine : goal.invariant-loop-engine
invariant-loop-engine l = record {
  within : (k : ℕ) (d : Whole) → k < l.engine-index → All FitsSlot (get_or l.engines k d).kept.slots;
  sound : (k : ℕ) (d : Whole) → k < l.engine-index → IsSound (get_or l.engines k d);
}
