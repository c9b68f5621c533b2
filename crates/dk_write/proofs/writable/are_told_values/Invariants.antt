use Rattle.std.proofs.Common.{◌≡◌, drop}
use Rattle.std.specs.List.{list_all, zip}
use Rattle.dk_base.specs.Values.{values_of}
use Rattle.dk_write.specs.Writable.{is_told_value}
use Rattle.dk_write.proofs.writable.are_told_values.Given as goal

abbrev pub invariant-loop-i : goal.invariant-loop-i
invariant-loop-i l = list_all is_told_value (drop l.i (zip l.vars (values_of l.values))) ≡ list_all is_told_value (zip l.vars (values_of l.values))
