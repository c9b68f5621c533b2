use Rattle.std.proofs.Common.{◌≡◌, [], drop, take}
use Rattle.dk_write.specs.Writable.{is_known_edge, none_twice}
use Rattle.dk_write.proofs.writable.no_edge_twice.Given as goal

abbrev pub invariant-loop-i : goal.invariant-loop-i
invariant-loop-i l = none_twice is_known_edge (take l.i l.edges) (drop l.i l.edges) ≡ none_twice is_known_edge [] l.edges
