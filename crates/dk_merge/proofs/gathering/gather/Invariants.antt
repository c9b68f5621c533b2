use Rattle.std.proofs.Common.{◌≡◌, ◌≤◌}
use Rattle.dk_merge.specs.Gathering.{AreReadTo}
use Rattle.dk_merge.proofs.gathering.gather.Given as goal

abbrev pub invariant-loop-place : goal.invariant-loop-place
invariant-loop-place g l = record {
  files : g.I.Inputs.file l.inputs ≡ g.I.Inputs.file l.fn.inputs;
  later : g.I.Inputs.faults l.fn.inputs ≤ g.I.Inputs.faults l.inputs;
  goes : AreReadTo l.command (g.I.Inputs.file l.fn.inputs) (g.I.Inputs.rest l.fn.inputs) (g.I.Inputs.rest l.inputs) l.gathering l.place;
}
