use Rattle.std.proofs.Common.{subst}
use Rattle.dk_merging.specs.Loading.{text_of}
use Rattle.dk_command_line.specs.declared.command.Command.{Command}
use Rattle.dk_run.specs.Loaded.{ReportsLoaded}
use Rattle.dk_merge.proofs.StateReports.{report_ends}
use Rattle.dk_merge.proofs.running.report_states.Goals as goal

pub report_loaded-requires-clause-table : goal.report_loaded-requires-clause-table
report_loaded-requires-clause-table g c = c.into_loaded.ensures.held.says.table

pub report_loaded-requires-clause-engines : goal.report_loaded-requires-clause-engines
report_loaded-requires-clause-engines g c = (c.into_loaded.ensures.held.says.of_table, c.into_loaded.ensures.held.says.of_grammar)

pub returns : goal.returns
returns g c =
    let old = g.S.Sinks.written c.args.sinks.now in
    let new = g.S.Sinks.written c.report_loaded.new.sinks in
    let before = g.S.Sinks.faults c.args.sinks.now in
    let after = g.S.Sinks.faults c.report_loaded.new.sinks in
    let loaded = c.into_loaded.result in
    let state = text_of c.args.states in
    let told = subst (λ (command : Command). ReportsLoaded command loaded old new before after c.report_loaded.result) c.reporting-command.ensures c.report_loaded.ensures in
    report_ends c.args.least state loaded c.into_loaded.ensures.held old new before after c.report_loaded.result told
