use Rattle.dk_core.specs.Sections.{section_of}
use Rattle.dk_core.specs.Standing.{SessionStandsFor}
use Rattle.dk_run.specs.Commands.{is_selected, report_options}
use Rattle.dk_run.specs.Telling.{ToldWhole}
use Rattle.dk_run.proofs.Writing.{texts_to}
use Rattle.dk_run.proofs.reporting.tell_marked.Given as goal

abbrev pub invariant-loop-p : goal.invariant-loop-p
invariant-loop-p g l =
    ToldWhole (SessionStandsFor l.session) (λ h. texts_to (section_of (report_options l.command) (is_selected l.command) h) l.p 0 h.table)
    (g.S.Sinks.written l.fn.sinks) (g.S.Sinks.written l.sinks) (g.S.Sinks.faults l.fn.sinks) (g.S.Sinks.faults l.sinks)
