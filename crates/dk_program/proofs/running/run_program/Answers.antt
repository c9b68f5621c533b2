use Rattle.dk_driver.specs.Walks.{total_limit}
use Rattle.dk_program.proofs.Completing.{asked_completes, short_of, without_run_completes}
use Rattle.dk_program.proofs.Saying.{run_says, without_run_says}
use Rattle.dk_program.specs.Statuses.{IsCalmlyComplete, RunComesTo}
use Rattle.dk_program.specs.Tasks.{task_by}
use Rattle.dk_program.proofs.running.run_program.Goals as goal

pub returns-in-Ok-clause-says : goal.returns-in-Ok-clause-says
returns-in-Ok-clause-says g c =
    run_says (λ a. RunComesTo (task_by g.P.Program.traces g.P.Program.is_report a (g.P.Begins.begins_with a) total_limit)) g.P.Arguments.command _ _ _ c.run_begun.result c.in-Ok.program c.in-Ok.ensures.asked
    (rw c.in-Ok.ensures.unwritten at c.run_begun.ensures.says)

pub returns-in-Ok-clause-complete : goal.returns-in-Ok-clause-complete
returns-in-Ok-clause-complete g c =
    asked_completes (λ a. IsCalmlyComplete (task_by g.P.Program.traces g.P.Program.is_report a (g.P.Begins.begins_with a) total_limit)) _ c.in-Ok.program _ _ c.run_begun.result c.in-Ok.ensures.asked
    (rw c.in-Ok.ensures.unwritten at c.run_begun.ensures.complete)

pub returns-in-Err-clause-says : goal.returns-in-Err-clause-says
returns-in-Err-clause-says g c =
    without_run_says (λ a. RunComesTo (task_by g.P.Program.traces g.P.Program.is_report a (g.P.Begins.begins_with a) total_limit)) g.P.Arguments.command _ _ _ c.in-Err.ended c.in-Err.ensures.ends

pub returns-in-Err-clause-complete : goal.returns-in-Err-clause-complete
returns-in-Err-clause-complete g c =
    without_run_completes (λ a. IsCalmlyComplete (task_by g.P.Program.traces g.P.Program.is_report a (g.P.Begins.begins_with a) total_limit)) g.P.Arguments.command _ _ _ c.in-Err.ended
    (λ a is calm. short_of (task_by g.P.Program.traces g.P.Program.is_report a (g.P.Begins.begins_with a) total_limit) _ _ c.in-Err.ended is) c.in-Err.ensures.ends
