use Rattle.std.specs.Prelude.{take}
use Rattle.std.specs.List.{AllZip}
use Rattle.dk_report.specs.Parents.{IsViewBy}
use Rattle.dk_report.proofs.parents.views_of.Given as goal

abbrev pub invariant-loop-parent : goal.invariant-loop-parent
invariant-loop-parent l = AllZip IsViewBy l.views.items (take l.parent-index l.parents)
