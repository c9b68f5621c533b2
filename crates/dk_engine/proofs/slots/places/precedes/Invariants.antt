use Rattle.std.specs.Prelude.{◌≡◌, drop}
use Rattle.dk_engine.specs.Sweeps.Ordering.{precedes}
use Rattle.dk_engine.proofs.slots.places.precedes.Given as goal

abbrev pub invariant-loop-i : goal.invariant-loop-i
invariant-loop-i l = precedes (drop l.i l.vars) (drop l.i l.others) ≡ precedes l.vars l.others
