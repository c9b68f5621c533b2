use Rattle.std.proofs.Common.{◌≡◌, take}
use Rattle.dk_presence.specs.Hashes.{hash_of}
use Rattle.dk_presence.proofs.places.hash_of.Given as goal

abbrev pub invariant-loop-leader : goal.invariant-loop-leader
invariant-loop-leader l = l.hash ≡ hash_of (take l.leader-index l.leaders)
