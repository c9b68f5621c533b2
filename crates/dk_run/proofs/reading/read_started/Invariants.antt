use Rattle.std.proofs.Common.{◌≡◌, ◌≤◌, ◌-◌, ◌+◌, ◌*◌, ℕ, not, IfSome, if◌then◌else◌}
use Rattle.dk_lines.specs.Reading.{left_of}
use Rattle.dk_core.specs.Selecting.{SelectsBy}
use Rattle.dk_core.specs.Standing.{ReportsAlike, over_of, select_of}
use Rattle.dk_io.specs.declared.outside.Stream.TheVariants.{Report}
use Rattle.dk_driver.specs.WholeFile.{FileGoesOn}
use Rattle.dk_run.specs.Commands.{is_selected}
use Rattle.dk_run.specs.Telling.{Added, ReportsBy}
use Rattle.dk_run.specs.WholeFile.{Behind, IsBehind}
use Rattle.dk_run.proofs.reading.read_started.Given as goal

abbrev pub invariant-steps : goal.invariant-steps
invariant-steps g l = record {
  started : l.lines.is_started ≡ not (over_of l.session);
  limits : l.lines.limits ≡ l.fn.lines.limits;
  files : g.I.Inputs.file l.inputs ≡ g.I.Inputs.file l.fn.inputs;
  later : g.I.Inputs.faults l.fn.inputs ≤ g.I.Inputs.faults l.inputs;
  calm : g.S.Sinks.faults l.sinks ≡ g.S.Sinks.faults l.fn.sinks;
  alike : ReportsAlike l.fn.session l.session;
  reports : ReportsBy l.command l.session;
  callable : goal.F-IsAlwaysCallable g (select_of l.session);
  selects : SelectsBy (goal.F-post g (select_of l.session)) (is_selected l.command);
  goes : Added (g.S.Sinks.written l.fn.sinks) (g.S.Sinks.written l.sinks) Report (λ text. (place : ℕ) →
      Behind l.command l.fn.session text (λ Begun all h steps. IfSome (left_of l.fn.lines (g.I.Inputs.rest l.fn.inputs))
      (λ xs. FileGoesOn l.command.ignore_missing_entry place h steps l.fn.lines xs (IsBehind l.command Begun l.session all) (over_of l.session) l.lines (left_of l.lines (g.I.Inputs.rest l.inputs)))));
}

abbrev pub decreases-steps : goal.decreases-steps
decreases-steps g l = (l.lines.limits.total - l.lines.total) * 2 + (if over_of l.session then 0 else 1)
