use Rattle.std.proofs.Common.{Some, ap, refl, subst}
use Rattle.dk_io.specs.NamedFiles.{Files, held_or_empty}
use Rattle.dk_run.proofs.Placing.{own_held}
use Rattle.dk_program.specs.Moments.{Outside, outside}
use Rattle.dk_run.specs.Statuses.{Says}
use Rattle.dk_command_line.specs.declared.command.Command.{Command}
use Rattle.dk_arguments.specs.declared.request.Request.TheVariants.{Run}
use Rattle.dk_merge.proofs.TurnsRuns.{turns_early, turns_end}
use Rattle.dk_merge.specs.Outputs.{turns_name}
use Rattle.dk_merge.proofs.running.run_over.Goals as goal

pub returns-in-Err : goal.returns-in-Err
returns-in-Err g c = turns_early c.args.least c.args.text _ _

pub returns-in-Err-holding : goal.returns-in-Err-holding
returns-in-Err-holding g c = turns_early c.args.least c.args.text _ _

pub returns : goal.returns
returns g c =
    let files = c.in-Ok-holding.inputs in
    let later = c.run_command.new.inputs in
    let before : Outside = outside (held_or_empty files.named) (Some files.rest) 0 (g.S.Sinks.written c.args.sinks.now) (g.S.Sinks.faults c.args.sinks.now) in
    let after : Outside = outside (held_or_empty later.named) (Some later.rest) 0 (g.S.Sinks.written c.run_command.new.sinks) (g.S.Sinks.faults c.run_command.new.sinks) in
    let holds = own_held files.named turns_name c.args.text turns_name (ap (λ (f : Files). f.named) c.in-Ok-holding.ensures) refl in
    turns_end c.args.least c.args.text before after holds refl refl c.run_command.result
    (subst (λ (k : Command). Says c.run_command.result (Some (Run k)) before after) c.in-Ok.ensures c.run_command.ensures.says)
