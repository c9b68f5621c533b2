use Rattle.std.specs.Prelude.{◌≡◌, drop}
use Rattle.dk_presence.specs.Patterns.{same_vars}
use Rattle.dk_engine.proofs.slots.places.are_same.Given as goal

abbrev pub invariant-loop-i : goal.invariant-loop-i
invariant-loop-i l = same_vars (drop l.i l.vs) (drop l.i l.ws) ≡ same_vars l.vs l.ws
