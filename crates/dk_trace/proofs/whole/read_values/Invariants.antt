use Rattle.dk_base.specs.Values.{values_of as shown_by}
use Rattle.dk_trace.specs.Whole.{ValuesSoFar}
use Rattle.dk_trace.proofs.whole.read_values.Given as goal

abbrev pub invariant-loop-var : goal.invariant-loop-var
invariant-loop-var l = ValuesSoFar l.vars l.var-index l.bytes (shown_by l.values.items) l.left l.count
