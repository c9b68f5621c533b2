-- What is made of a block that was found.
use Rattle.std.specs.Prelude.{◌≡◌, length, Some, Result, Ok, Err}
use Rattle.dk_base.specs.Reading.{LineFault}
use Rattle.dk_base.specs.declared.faults.Fault.{Fault}
use Rattle.dk_hierarchy.specs.Samples.{own_samples_of}
use Rattle.dk_hierarchy.specs.Standing.{EnginesStandFor}
use Rattle.dk_blocks.specs.Adding.{Adds}
use Rattle.dk_blocks.specs.History.{Effect, History, Taken}
use Rattle.dk_blocks.specs.Standing.{ReaderStandsFor}
use Rattle.dk_blocks.specs.Steps.{RefusedAs}
use Rattle.dk_core.specs.Keeping.{Keeping}
use Rattle.dk_core.specs.Standing.{Stands}

-- the engines stand for the samples of a history, past which the reader has gone
pub record EnginesWere (kept : Keeping) (h : History) : Type 0 where
  pub long : length kept.engines ≡ length h.table
  pub many : length h.samples ≡ length h.table
  pub engines : EnginesStandFor kept.engines (own_samples_of h.table h.samples)
  pub grammar : kept.grammar ≡ h.grammar

-- The block comes to this effect, and the reader behind it stands for the history with it; so does all that is kept, where the engines in
-- front stood for h. Or it is refused.
abbrev pub TakenAs : Keeping → History → Result Keeping Fault → Result Taken LineFault → Type 0
TakenAs old h (Ok kept) outcome =
    (h' : History) × ReaderStandsFor kept.reader h' × ((effect : Effect) × (outcome ≡ Ok (record { history = h'; effect = Some effect }))
    × (EnginesWere old h → Adds h (Some effect) h' → h'.grammar ≡ h.grammar → Stands kept h'))
TakenAs old h (Err fault) outcome = RefusedAs fault outcome
