use Rattle.dk_driver.specs.declared.fault.FileFault.TheVariants.{Read, Start}
use Rattle.dk_run.proofs.Saying.{fault_ends}
use Rattle.dk_run.proofs.top.tell_trouble.Goals as goal

pub returns-in-Start : goal.returns-in-Start
returns-in-Start g c =
    fault_ends c.args.command.now c.in-Start.place c.name_at-in-Start.result.now Start c.args.trouble _ _ _ _ c.tell_file_fault-in-Start.result c.name_at-in-Start.ensures c.in-Start.is c.tell_file_fault-in-Start.ensures

pub returns-in-Read : goal.returns-in-Read
returns-in-Read g c =
    fault_ends c.args.command.now c.in-Read.place c.name_at-in-Read.result.now Read c.args.trouble _ _ _ _ c.tell_file_fault-in-Read.result c.name_at-in-Read.ensures c.in-Read.is c.tell_file_fault-in-Read.ensures
