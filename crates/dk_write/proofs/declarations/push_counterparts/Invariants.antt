use Rattle.std.proofs.Common.{◌≡◌, ◌++◌, flat_map, take}
use Rattle.dk_lines.specs.Passing.{joined}
use Rattle.dk_write.specs.Declarations.{counterpart_lines}
use Rattle.dk_write.proofs.declarations.push_counterparts.Given as goal

abbrev pub invariant-loop-counterpart : goal.invariant-loop-counterpart
invariant-loop-counterpart l = l.text ≡ l.fn.text ++ joined (flat_map (counterpart_lines l.edges) (take l.counterpart-index l.counterparts))
