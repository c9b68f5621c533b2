use Rattle.std.proofs.Common.{◌≡◌, drop}
use Rattle.dk_write.specs.Writable.{is_known_edge}
use Rattle.dk_write.proofs.writable.is_known_edge.Given as goal

abbrev pub invariant-loop-other : goal.invariant-loop-other
invariant-loop-other l = is_known_edge l.edge (drop l.other-index l.others) ≡ is_known_edge l.edge l.others
