use Rattle.std.proofs.Common.{◌≡◌, ◌≤◌, List, ℕ}
use Rattle.dk_table.specs.Streams.Progress.{AreBehind}
use Rattle.dk_table.proofs.streaming.tell_stream.Given as goal

abbrev pub invariant-loop-file : goal.invariant-loop-file
invariant-loop-file g l = record {
  behind :
      (contents : List (List ℕ)) × AreBehind l.task.command.now l.task.point.now l.task.types l.names (g.I.Inputs.file l.fn.inputs) l.file contents l.stage
      (g.S.Sinks.written l.fn.sinks) (g.S.Sinks.written l.sinks) (g.S.Sinks.faults l.fn.sinks) (g.S.Sinks.faults l.sinks);
  files : g.I.Inputs.file l.inputs ≡ g.I.Inputs.file l.fn.inputs;
  later : g.I.Inputs.faults l.fn.inputs ≤ g.I.Inputs.faults l.inputs;
}
