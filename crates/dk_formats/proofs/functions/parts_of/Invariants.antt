use Rattle.std.proofs.Common.{take}
use Rattle.dk_formats.specs.Steps.{AreParts}
use Rattle.dk_formats.proofs.functions.parts_of.Given as goal

abbrev pub invariant-loop-line : goal.invariant-loop-line
invariant-loop-line l = AreParts l.language l.vars (take l.line-index l.lines) l.parts
