use Rattle.std.proofs.Common.{take}
use Rattle.dk_formats.specs.Steps.{AddsJson}
use Rattle.dk_formats.proofs.json.push_lines.Given as goal

abbrev pub invariant-loop-told : goal.invariant-loop-told
invariant-loop-told l = AddsJson l.vars l.point (take l.told-index l.lines) l.fn.text l.text
