use Rattle.std.specs.Prelude.{take}
use Rattle.std.specs.List.{AllZip}
use Rattle.dk_report.specs.Parents.{IsParentBy}
use Rattle.dk_report.proofs.parents.parents_of.Given as goal

abbrev pub invariant-loop-edge : goal.invariant-loop-edge
invariant-loop-edge l = AllZip (IsParentBy l.points l.engines) l.parents.items (take l.edge-index l.edge-items)
