use Rattle.std.proofs.Common.{◌≡◌, ◌≤◌, ◌-◌, true, IfSome}
use Rattle.dk_lines.specs.Reading.{left_of}
use Rattle.dk_claims.proofs.Lining.{GoesTo}
use Rattle.dk_claims.proofs.reading.read_sections.Given as goal

abbrev pub invariant-reading : goal.invariant-reading
invariant-reading g l = record {
  started : l.lines.is_started ≡ true;
  limits : l.lines.limits ≡ l.fn.lines.limits;
  files : g.I.Inputs.file l.inputs ≡ g.I.Inputs.file l.fn.inputs;
  later : g.I.Inputs.faults l.fn.inputs ≤ g.I.Inputs.faults l.inputs;
  goes : IfSome (left_of l.fn.lines (g.I.Inputs.rest l.fn.inputs))
      (λ xs. GoesTo l.fn.lines xs l.sections l.lines (left_of l.lines (g.I.Inputs.rest l.inputs)));
}

abbrev pub decreases-reading : goal.decreases-reading
decreases-reading g l = l.lines.limits.total - l.lines.total
