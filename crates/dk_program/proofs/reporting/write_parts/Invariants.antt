use Rattle.dk_driver.specs.Standing.{StandsFor, told_by}
use Rattle.dk_program.proofs.Writing.{Only, parts_to}
use Rattle.dk_program.specs.Telling.{ToldWhole}
use Rattle.dk_program.proofs.reporting.write_parts.Given as goal

abbrev pub invariant-loop-place : goal.invariant-loop-place
invariant-loop-place g l =
    ToldWhole (StandsFor g.P.Kept.Consumer.stands l.feed) (Only (λ h records. parts_to (g.P.InParts.part l.program (told_by h records)) l.place))
    (g.S.Sinks.written l.fn.sinks) (g.S.Sinks.written l.sinks) (g.S.Sinks.faults l.fn.sinks) (g.S.Sinks.faults l.sinks)
