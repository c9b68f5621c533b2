use Rattle.std.proofs.Common.{◌≡◌, take}
use Rattle.dk_snapshot.specs.Entries.{all_known_of}
use Rattle.dk_snapshot.proofs.known.known_in_order.Given as goal

abbrev pub invariant-loop-leader : goal.invariant-loop-leader
invariant-loop-leader l = l.known ≡ all_known_of (take l.leader-index l.entries)
