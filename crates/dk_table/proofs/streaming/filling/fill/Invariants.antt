use Rattle.std.proofs.Common.{◌≡◌, ◌≤◌, ◌<◌, ◌-◌, ◌++◌, List, ℕ, length}
use Rattle.std.specs.Io.KnownBytes.{prepend_known}
use Rattle.dk_table.proofs.streaming.filling.fill.Given as goal

abbrev pub invariant-reading : goal.invariant-reading
invariant-reading g l = record {
  added : (got : List ℕ) × (l.text ≡ l.fn.text ++ got) × (g.I.Inputs.rest l.fn.inputs ≡ prepend_known got (g.I.Inputs.rest l.inputs));
  files : g.I.Inputs.file l.inputs ≡ g.I.Inputs.file l.fn.inputs;
  buffer : 0 < length l.buf.items;
  later : g.I.Inputs.faults l.fn.inputs ≤ g.I.Inputs.faults l.inputs;
}

abbrev pub decreases-reading : goal.decreases-reading
decreases-reading g l = l.enough - length l.text
