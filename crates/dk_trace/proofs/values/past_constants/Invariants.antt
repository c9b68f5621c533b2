use Rattle.std.proofs.Common.{◌≡◌, ◌-◌, ℕ, List, Option, length, drop}
use Rattle.dk_base.specs.Reading.{Line}
use Rattle.dk_base.specs.Values.{values_of as shown_by}
use Rattle.dk_trace.specs.Values.{record_values, then_values}
use Rattle.dk_trace.proofs.values.past_constants.Given as goal

-- the values are the same, wherever the constants stand
abbrev pub invariant-constants : goal.invariant-constants
invariant-constants l = (ls : List Line) (close : Option ℕ) → then_values (shown_by l.fn.values.items) (record_values (drop l.from l.vars) ls close)
    ≡ then_values (shown_by l.values.items) (record_values (drop l.index l.vars) ls close)

abbrev pub decreases-constants : goal.decreases-constants
decreases-constants l = length l.vars - l.index
