use Rattle.dk_core.specs.Sections.{stats_of}
use Rattle.dk_core.specs.Standing.{SessionStandsFor}
use Rattle.dk_run.specs.Telling.{ToldWhole}
use Rattle.dk_run.proofs.Writing.{texts_to}
use Rattle.dk_run.proofs.reporting.tell_all_stats.Given as goal

abbrev pub invariant-loop-p : goal.invariant-loop-p
invariant-loop-p g l =
    ToldWhole (SessionStandsFor l.session) (λ h. texts_to (stats_of h) l.p 0 h.table)
    (g.S.Sinks.written l.fn.sinks) (g.S.Sinks.written l.sinks) (g.S.Sinks.faults l.fn.sinks) (g.S.Sinks.faults l.sinks)
