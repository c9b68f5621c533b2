use Rattle.std.proofs.Common.{◌≡◌, ◌≤◌, take}
use Rattle.dk_table.specs.Tables.Contents.{AreReadAs, helds_of}
use Rattle.dk_table.proofs.reading.read_texts.Given as goal

abbrev pub invariant-loop-place : goal.invariant-loop-place
invariant-loop-place g l = record {
  read : AreReadAs (take l.place (helds_of l.names (g.I.Inputs.file l.fn.inputs))) l.texts;
  files : g.I.Inputs.file l.inputs ≡ g.I.Inputs.file l.fn.inputs;
  later : g.I.Inputs.faults l.fn.inputs ≤ g.I.Inputs.faults l.inputs;
}
