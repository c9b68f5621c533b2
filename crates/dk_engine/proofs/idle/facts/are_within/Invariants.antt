use Rattle.std.specs.Prelude.{◌≡◌, drop}
use Rattle.dk_base.specs.Values.{values_of}
use Rattle.dk_engine.specs.Idle.{are_within}
use Rattle.dk_engine.proofs.idle.facts.are_within.Given as goal

abbrev pub invariant-loop-range : goal.invariant-loop-range
invariant-loop-range l = are_within (values_of l.sample) (drop l.range-index l.ranges) ≡ are_within (values_of l.sample) l.ranges
