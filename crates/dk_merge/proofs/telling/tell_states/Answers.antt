use Rattle.std.proofs.Common.{List, ℕ, subst, ◌∙◌}
use Rattle.dk_events.specs.declared.ended.Ended.TheVariants as ended
use Rattle.dk_io.specs.declared.outside.Stream.TheVariants.{State}
use Rattle.dk_merging.specs.Loading.{text_of}
use Rattle.dk_program.specs.Ending.{EndsWith}
use Rattle.dk_merge.proofs.StateReports.{report_done, state_early, state_ends}
use Rattle.dk_merge.proofs.telling.tell_states.Goals as goal

pub returns-in-Err : goal.returns-in-Err
returns-in-Err g c = state_early c.args.least (text_of c.args.states) _ _

pub returns-in-Done : goal.returns-in-Done
returns-in-Done g c =
    let done = report_done c.args.least (text_of c.args.states) _ _ _ _ c.report_states.result c.in-Done.is c.report_states.ensures in
    let ended = subst (λ (s : List ℕ). EndsWith ended.Done State s (g.S.Sinks.written c.report_states.new.sinks) (g.S.Sinks.written c.end_with.new.sinks) (g.S.Sinks.faults c.report_states.new.sinks) (g.S.Sinks.faults c.end_with.new.sinks) c.end_with.result)
    (c.as_slice-state.ensures ∙ c.in-Ok.ensures) c.end_with.ensures in
    state_ends c.args.least (text_of c.args.states) _ _ _ _ _ _ c.end_with.result done.0.0 done.0.1 done.0.2 done.1 ended
