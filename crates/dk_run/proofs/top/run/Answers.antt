use Rattle.std.proofs.Common.{Option, subst, sym}
use Rattle.dk_arguments.specs.declared.request.Request.{Request}
use Rattle.dk_command_line.specs.Requests.{request_of}
use Rattle.dk_command_line.specs.declared.command.Command.{Command}
use Rattle.dk_program.specs.Statuses.{IsARun}
use Rattle.dk_run.proofs.Complete.{complete_says, without_run_completes}
use Rattle.dk_run.proofs.Saying.{run_says, without_run_says}
use Rattle.dk_run.proofs.top.run.Goals as goal

-- ---- a run
pub returns-in-Ok-clause-says : goal.returns-in-Ok-clause-says
unfolding request_of
returns-in-Ok-clause-says g c = run_says _ c.in-Ok.command _ _ c.run_command.result c.in-Ok.ensures.asked (rw c.in-Ok.ensures.unwritten at c.run_command.ensures.says)

pub returns-in-Ok-clause-unread : goal.returns-in-Ok-clause-unread
unfolding request_of
returns-in-Ok-clause-unread g c none = absurd (none (subst (λ (r : Option (Request Command)). IsARun r) (sym c.in-Ok.ensures.asked) tt))

pub returns-in-Ok-clause-complete : goal.returns-in-Ok-clause-complete
unfolding request_of
returns-in-Ok-clause-complete g c = complete_says _ c.in-Ok.command _ _ c.run_command.result c.in-Ok.ensures.asked (rw c.in-Ok.ensures.unwritten at c.run_command.ensures.says)

-- ---- none
pub returns-in-Err-clause-says : goal.returns-in-Err-clause-says
unfolding request_of
returns-in-Err-clause-says g c = without_run_says _ _ _ c.in-Err.ended c.in-Err.ensures.ends

pub returns-in-Err-clause-complete : goal.returns-in-Err-clause-complete
unfolding request_of
returns-in-Err-clause-complete g c = without_run_completes _ _ _ c.in-Err.ended (without_run_says _ _ _ c.in-Err.ended c.in-Err.ensures.ends)
