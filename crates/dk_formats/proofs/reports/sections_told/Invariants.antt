use Rattle.std.proofs.Common.{take}
use Rattle.dk_formats.specs.Steps.{AddsSections}
use Rattle.dk_formats.specs.Telling.{front_text}
use Rattle.dk_formats.proofs.reports.sections_told.Given as goal

abbrev pub invariant-loop-section : goal.invariant-loop-section
invariant-loop-section l = AddsSections l.format l.points (take l.section-index l.sections) (front_text l.format) l.text
