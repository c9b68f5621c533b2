use Rattle.std.proofs.Common.{◌≡◌, ◌++◌, flat_map, take}
use Rattle.std.specs.List.{zip}
use Rattle.dk_base.specs.Values.{values_of}
use Rattle.dk_lines.specs.Passing.{joined}
use Rattle.dk_write.specs.Records.{told_lines}
use Rattle.dk_write.proofs.records.push_all_told.Given as goal

abbrev pub invariant-loop-i : goal.invariant-loop-i
invariant-loop-i l = l.text ≡ l.fn.text ++ joined (flat_map told_lines (take l.i (zip l.vars (values_of l.values))))
