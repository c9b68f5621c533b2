use Rattle.dk_program.proofs.Completing.{asked_completes, without_run_completes}
use Rattle.dk_program.proofs.Opening.{memory_completes}
use Rattle.dk_program.proofs.Saying.{run_says, without_run_says}
use Rattle.dk_program.specs.Openings.{IsOpeningCalmlyComplete, OpeningComesTo, opening_by}
use Rattle.dk_program.proofs.running.run_opening.Goals as goal

pub returns-in-Ok-clause-says : goal.returns-in-Ok-clause-says
returns-in-Ok-clause-says g c =
    run_says (λ a. OpeningComesTo (opening_by g.P.Opens.first g.P.Opens.given_in g.P.Opens.may_refuse g.P.Program.traces g.P.Program.is_report a)) g.P.Arguments.command _ _ _ c.run_opened.result c.in-Ok.program c.in-Ok.ensures.asked
    (rw c.in-Ok.ensures.unwritten at c.run_opened.ensures.says)

pub returns-in-Ok-clause-complete : goal.returns-in-Ok-clause-complete
returns-in-Ok-clause-complete g c =
    asked_completes (λ a. IsOpeningCalmlyComplete (opening_by g.P.Opens.first g.P.Opens.given_in g.P.Opens.may_refuse g.P.Program.traces g.P.Program.is_report a)) _ c.in-Ok.program _ _ c.run_opened.result c.in-Ok.ensures.asked
    (rw c.in-Ok.ensures.unwritten at c.run_opened.ensures.complete)

pub returns-in-Err-clause-says : goal.returns-in-Err-clause-says
returns-in-Err-clause-says g c =
    without_run_says (λ a. OpeningComesTo (opening_by g.P.Opens.first g.P.Opens.given_in g.P.Opens.may_refuse g.P.Program.traces g.P.Program.is_report a)) g.P.Arguments.command _ _ _ c.in-Err.ended c.in-Err.ensures.ends

pub returns-in-Err-clause-complete : goal.returns-in-Err-clause-complete
returns-in-Err-clause-complete g c =
    without_run_completes (λ a. IsOpeningCalmlyComplete (opening_by g.P.Opens.first g.P.Opens.given_in g.P.Opens.may_refuse g.P.Program.traces g.P.Program.is_report a)) g.P.Arguments.command _ _ _ c.in-Err.ended
    (λ a is calm. memory_completes (opening_by g.P.Opens.first g.P.Opens.given_in g.P.Opens.may_refuse g.P.Program.traces g.P.Program.is_report a) _ _ c.in-Err.ended is) c.in-Err.ensures.ends
