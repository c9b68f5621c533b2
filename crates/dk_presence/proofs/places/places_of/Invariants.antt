use Rattle.std.proofs.Common.{take}
use Rattle.dk_presence.specs.Hashes.{AreKeyed}
use Rattle.dk_presence.specs.Patterns.{held_patterns}
use Rattle.dk_presence.proofs.places.places_of.Given as goal

abbrev pub invariant-loop-place : goal.invariant-loop-place
invariant-loop-place l = AreKeyed l.places (held_patterns (take l.place l.held))
