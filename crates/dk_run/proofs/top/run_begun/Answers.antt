use Rattle.dk_run.proofs.Saying.{first_come}
use Rattle.dk_run.proofs.top.run_begun.Goals as goal

pub returns-in-Err-clause-says : goal.returns-in-Err-clause-says
returns-in-Err-clause-says g c before come same = rw c.status.ensures (first_come c.args.command.now before _ c.in-Err.halt _ _ come.begun.begun same come.calm c.in-Err.ensures)
