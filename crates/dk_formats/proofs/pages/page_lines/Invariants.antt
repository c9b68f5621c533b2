use Rattle.std.proofs.Common.{take}
use Rattle.dk_formats.specs.Steps.{ArePageLines}
use Rattle.dk_formats.proofs.pages.page_lines.Given as goal

abbrev pub invariant-loop-told : goal.invariant-loop-told
invariant-loop-told l = ArePageLines l.vars (take l.told-index l.lines) l.found
