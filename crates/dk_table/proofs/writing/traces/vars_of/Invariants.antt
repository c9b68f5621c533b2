use Rattle.std.proofs.Common.{◌≡◌, map, take}
use Rattle.std.specs.List.{zip}
use Rattle.dk_table.specs.Traces.{var_of}
use Rattle.dk_table.proofs.writing.traces.vars_of.Given as goal

abbrev pub invariant-loop-i : goal.invariant-loop-i
invariant-loop-i l = l.vars ≡ map var_of (take l.i (zip l.names l.kinds))
