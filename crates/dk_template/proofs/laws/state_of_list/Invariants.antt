use Rattle.std.proofs.Common.{◌≡◌, take}
use Rattle.dk_template.specs.Laws.{tuples_of}
use Rattle.dk_template.specs.Proper.{IsProper}
use Rattle.dk_template.proofs.laws.state_of_list.Given as goal

-- the state of the tuples so far, which is proper
abbrev pub invariant-loop-tuple : goal.invariant-loop-tuple
invariant-loop-tuple g l = (l.state ≡ g.R.Row.state_of l.row (tuples_of (take l.tuple-index l.tuples))) × IsProper (g.R.Row.form l.row) l.state
