use Rattle.dk_run.proofs.Saying.{unbegun_says}
use Rattle.dk_run.proofs.top.do_command.Goals as goal

pub returns-in-Err-clause-says : goal.returns-in-Err-clause-says
returns-in-Err-clause-says g c =
    unbegun_says c.args.command.now _ _ c.state_name.result.now c.in-Err.fault c.tell_file_fault.result c.state_name.ensures c.in-Err.ensures.fault c.tell_file_fault.ensures
