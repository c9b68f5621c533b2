use Rattle.std.proofs.Common.{◌≡◌, ◌≤◌, ◌+◌, ◌&&◌, drop, filter, length}
use Rattle.std.specs.Bool.{beq}
use Rattle.dk_base.specs.Shapes.{is_sequence, is_orig}
use Rattle.dk_points.specs.Counts.{number_of_sequences}
use Rattle.dk_points.proofs.limits.number_of_sequences.Given as goal

abbrev pub invariant-loop-var : goal.invariant-loop-var
invariant-loop-var l = record {
  number : l.number + length (filter (λ v. is_sequence v.kind && beq (is_orig v.form) l.orig) (drop l.var-index l.vars)) ≡ number_of_sequences l.orig l.vars;
  within : l.number ≤ l.var-index;
}
