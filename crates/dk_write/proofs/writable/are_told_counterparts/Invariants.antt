use Rattle.std.proofs.Common.{◌≡◌, drop}
use Rattle.std.specs.List.{list_all}
use Rattle.dk_write.specs.Writable.{is_told_counterpart}
use Rattle.dk_write.proofs.writable.are_told_counterparts.Given as goal

abbrev pub invariant-loop-counterpart : goal.invariant-loop-counterpart
invariant-loop-counterpart l = list_all (is_told_counterpart l.edges) (drop l.counterpart-index l.counterparts) ≡ list_all (is_told_counterpart l.edges) l.counterparts
