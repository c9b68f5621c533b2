use Rattle.std.proofs.Common.{take}
use Rattle.dk_formats.specs.Steps.{ArePageSections}
use Rattle.dk_formats.proofs.pages.page_report.Given as goal

abbrev pub invariant-loop-section : goal.invariant-loop-section
invariant-loop-section l = ArePageSections l.points (take l.section-index l.sections) l.headings l.found
