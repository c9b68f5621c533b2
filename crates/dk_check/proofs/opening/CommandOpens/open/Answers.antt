use Rattle.std.proofs.Common.{IfSome, Err, subst, sym}
use Rattle.dk_driver.specs.declared.fault.FileFault.{FileFault}
use Rattle.dk_lines.specs.Reading.{left_of}
use Rattle.dk_program.specs.Openings.{OpeningGives}
use Rattle.dk_check.proofs.Claiming.{fault_told}
use Rattle.dk_check.specs.Assertions.{claims_in}
use Rattle.dk_check.specs.Standing.{claims_of}
use Rattle.dk_check.specs.declared.checking.Checking.{Checking}
use Rattle.dk_check.proofs.opening.CommandOpens.open.Goals as goal

pub returns-in-Err-clause-gives : goal.returns-in-Err-clause-gives
returns-in-Err-clause-gives g c =
    subst (λ (fault : FileFault). IfSome (left_of c.args.lines.now (g.I.Inputs.rest c.args.inputs.now))
    (λ xs. OpeningGives {K = Checking} claims_in claims_of xs (Err fault) c.read_claims.new.lines (left_of c.read_claims.new.lines (g.I.Inputs.rest c.read_claims.new.inputs)))) (sym c.fault_of_lines.ensures)
    (fault_told c.args.lines.now c.read_claims.new.lines _ c.requires.fresh c.requires.limits c.requires.room _ c.in-Err.fault c.in-Err.ensures.gives)
