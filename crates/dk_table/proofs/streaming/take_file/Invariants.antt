use Rattle.std.proofs.Common.{◌≡◌, ◌≤◌, List, ℕ}
use Rattle.dk_io.specs.Outside.{Rose}
use Rattle.dk_io.specs.Streams.{Texts}
use Rattle.dk_table.specs.Streams.Progress.{IsGoing}
use Rattle.dk_table.proofs.streaming.take_file.Given as goal

abbrev pub invariant-pieces : goal.invariant-pieces
invariant-pieces g l = record {
  goes :
      (names : List (List ℕ)) (contents : List (List ℕ)) (base : Texts) (start since : ℕ) → since ≤ g.I.Inputs.faults l.fn.inputs
      → IsGoing l.task.command.now l.task.point.now l.task.types names (g.I.Inputs.file l.fn.inputs) (Rose since (g.I.Inputs.faults l.fn.inputs)) l.file contents l.fn.going (g.I.Inputs.rest l.fn.inputs)
      base (g.S.Sinks.written l.fn.sinks) start (g.S.Sinks.faults l.fn.sinks)
      → IsGoing l.task.command.now l.task.point.now l.task.types names (g.I.Inputs.file l.fn.inputs) (Rose since (g.I.Inputs.faults l.inputs)) l.file contents l.going (g.I.Inputs.rest l.inputs)
      base (g.S.Sinks.written l.sinks) start (g.S.Sinks.faults l.sinks);
  files : g.I.Inputs.file l.inputs ≡ g.I.Inputs.file l.fn.inputs;
  later : g.I.Inputs.faults l.fn.inputs ≤ g.I.Inputs.faults l.inputs;
}
