use Rattle.std.proofs.Common.{IfSome, Err, subst, sym}
use Rattle.dk_driver.specs.declared.fault.FileFault.{FileFault}
use Rattle.dk_lines.specs.Reading.{left_of}
use Rattle.dk_program.specs.Openings.{OpeningGives}
use Rattle.dk_tell.proofs.Reading.{fault_told, sections_told}
use Rattle.dk_tell.specs.Reports.{sections_in}
use Rattle.dk_tell.specs.Standing.{sections_of}
use Rattle.dk_tell.specs.declared.reported.Reported.{Reported}
use Rattle.dk_tell.proofs.opening.CommandOpens.open.Goals as goal

pub returns-in-Ok-clause-gives : goal.returns-in-Ok-clause-gives
returns-in-Ok-clause-gives g c =
    sections_told c.args.lines.now c.read_sections.new.lines _ c.requires.fresh c.requires.limits c.requires.room _ c.in-Ok.sections c.in-Ok.ensures.gives

pub returns-in-Err-clause-gives : goal.returns-in-Err-clause-gives
returns-in-Err-clause-gives g c =
    subst (λ (fault : FileFault). IfSome (left_of c.args.lines.now (g.I.Inputs.rest c.args.inputs.now))
    (λ xs. OpeningGives {K = Reported} sections_in sections_of xs (Err fault) c.read_sections.new.lines (left_of c.read_sections.new.lines (g.I.Inputs.rest c.read_sections.new.inputs)))) (sym c.fault_of_lines.ensures)
    (fault_told c.args.lines.now c.read_sections.new.lines _ c.requires.fresh c.requires.limits c.requires.room _ c.in-Err.fault c.in-Err.ensures.gives)
