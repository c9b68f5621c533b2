use Rattle.std.specs.Prelude.{◌≡◌, drop}
use Rattle.dk_base.specs.Values.{values_of}
use Rattle.dk_engine.specs.Idle.{are_so}
use Rattle.dk_engine.proofs.idle.facts.are_so.Given as goal

abbrev pub invariant-loop-one : goal.invariant-loop-one
invariant-loop-one l = are_so (values_of l.sample) (drop l.one-index l.compared) ≡ are_so (values_of l.sample) l.compared
