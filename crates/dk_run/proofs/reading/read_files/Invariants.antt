use Rattle.std.proofs.Common.{◌≡◌, ◌≤◌, ◌+◌, ◌++◌, ℕ, List, false}
use Rattle.dk_lines.specs.Reading.{room_of}
use Rattle.dk_core.specs.Selecting.{SelectsBy}
use Rattle.dk_core.specs.Standing.{ReportsAlike, over_of, select_of}
use Rattle.dk_io.specs.declared.outside.Stream.TheVariants.{Report}
use Rattle.dk_run.specs.AllFiles.{AreReadTo}
use Rattle.dk_run.specs.Commands.{generated_count, is_selected}
use Rattle.dk_run.specs.Courses.{line_limit}
use Rattle.dk_run.specs.Telling.{Added, ReportsBy}
use Rattle.dk_run.proofs.reading.read_files.Given as goal

abbrev pub invariant-loop-index : goal.invariant-loop-index
invariant-loop-index g l = record {
  begins : over_of l.session ≡ false;
  limits : l.lines.limits.line ≡ line_limit;
  files : g.I.Inputs.file l.inputs ≡ g.I.Inputs.file l.fn.inputs;
  later : g.I.Inputs.faults l.fn.inputs ≤ g.I.Inputs.faults l.inputs;
  calm : g.S.Sinks.faults l.sinks ≡ g.S.Sinks.faults l.fn.sinks;
  alike : ReportsAlike l.fn.session l.session;
  reports : ReportsBy l.command l.session;
  callable : goal.F-IsAlwaysCallable g (select_of l.session);
  selects : SelectsBy (goal.F-post g (select_of l.session)) (is_selected l.command);
  goes : Added (g.S.Sinks.written l.fn.sinks) (g.S.Sinks.written l.sinks) Report (λ text. (told : List ℕ) →
      AreReadTo l.command (g.I.Inputs.file l.fn.inputs) (g.I.Inputs.rest l.fn.inputs) (g.I.Inputs.rest l.fn.inputs) l.fn.session (room_of l.fn.lines) (generated_count l.command) told
      → AreReadTo l.command (g.I.Inputs.file l.fn.inputs) (g.I.Inputs.rest l.fn.inputs) (g.I.Inputs.rest l.inputs) l.session (room_of l.lines) (generated_count l.command + l.index) (told ++ text));
}
