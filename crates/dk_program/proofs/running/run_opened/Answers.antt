use Rattle.std.proofs.Common.{ℕ, List, subst}
use Rattle.dk_io.specs.Outside.{HeldFile}
use Rattle.dk_lines.specs.Reading.{room_of}
use Rattle.dk_program.proofs.Opening.{behind_says, first_says}
use Rattle.dk_program.specs.Ending.{EndsByFault}
use Rattle.dk_program.specs.Moments.{outside}
use Rattle.dk_program.specs.Openings.{opened_with, opening_by}
use Rattle.dk_program.specs.Statuses.{RunComesTo, StatusSays}
use Rattle.dk_program.specs.Tasks.{task_by}
use Rattle.dk_program.proofs.running.run_opened.Goals as goal

pub returns-in-Ok-read_first-clause-says : goal.returns-in-Ok-read_first-clause-says
returns-in-Ok-read_first-clause-says g c =
    let given = g.P.Kept.Consumer.given c.in-Ok-read_first.kept in
    let after = outside (g.I.Inputs.file c.run_from.new.inputs) (g.I.Inputs.rest c.run_from.new.inputs) (g.I.Inputs.faults c.run_from.new.inputs) (g.S.Sinks.written c.run_from.new.sinks) (g.S.Sinks.faults c.run_from.new.sinks) in
    let task = task_by g.P.Program.traces g.P.Program.is_report c.args.program.now given (room_of c.read_first.new.lines) in
    behind_says (opening_by g.P.Opens.first g.P.Opens.given_in g.P.Opens.may_refuse g.P.Program.traces g.P.Program.is_report c.args.program.now)
    (outside (g.I.Inputs.file c.args.inputs.now) (g.I.Inputs.rest c.args.inputs.now) (g.I.Inputs.faults c.args.inputs.now) (g.S.Sinks.written c.args.sinks.now) (g.S.Sinks.faults c.args.sinks.now)) after
    (opened_with given (room_of c.read_first.new.lines) (g.I.Inputs.rest c.read_first.new.inputs)) c.in-Ok-read_first.ensures.opened
    (g.I.Inputs.faults c.read_first.new.inputs) c.read_first.ensures.later c.run_from.result
    (subst (λ (f : List ℕ → HeldFile). StatusSays (RunComesTo task) c.run_from.result
    (outside f (g.I.Inputs.rest c.read_first.new.inputs) (g.I.Inputs.faults c.read_first.new.inputs) (g.S.Sinks.written c.args.sinks.now) (g.S.Sinks.faults c.args.sinks.now)) after) c.read_first.ensures.files
    c.run_from.ensures.says)

pub returns-clause-says : goal.returns-clause-says
returns-clause-says g c =
    let before = outside (g.I.Inputs.file c.args.inputs.now) (g.I.Inputs.rest c.args.inputs.now) (g.I.Inputs.faults c.args.inputs.now) (g.S.Sinks.written c.args.sinks.now) (g.S.Sinks.faults c.args.sinks.now) in
    let after = outside (g.I.Inputs.file c.read_first.new.inputs) (g.I.Inputs.rest c.read_first.new.inputs) (g.I.Inputs.faults c.read_first.new.inputs) (g.S.Sinks.written c.tell_file_fault.new.sinks) (g.S.Sinks.faults c.tell_file_fault.new.sinks) in
    first_says (opening_by g.P.Opens.first g.P.Opens.given_in g.P.Opens.may_refuse g.P.Program.traces g.P.Program.is_report c.args.program.now) before after
    c.in-Err-read_first.fault c.tell_file_fault.result c.in-Err-read_first.ensures.fault
    (subst (λ (name : List ℕ). EndsByFault name c.in-Err-read_first.fault before.written after.written before.write_faults after.write_faults c.tell_file_fault.result) c.first.ensures c.tell_file_fault.ensures)
