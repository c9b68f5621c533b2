use Rattle.std.proofs.Common.{refl}
use Rattle.dk_run.proofs.Complete.{complete_says}
use Rattle.dk_run.proofs.top.run_command.Goals as goal

pub returns-clause-complete : goal.returns-clause-complete
returns-clause-complete g c = complete_says _ c.args.command.now _ _ c.do_command.result refl c.do_command.ensures.says
