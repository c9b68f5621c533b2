use Rattle.std.proofs.Common.{◌≡◌, drop}
use Rattle.std.specs.List.{list_all}
use Rattle.dk_state.specs.Given.{is_given_counterpart}
use Rattle.dk_state.proofs.given.are_mapped.Given as goal

abbrev pub invariant-loop-mapped : goal.invariant-loop-mapped
invariant-loop-mapped l = list_all (is_given_counterpart l.own l.edges) (drop l.mapped-index l.parents) ≡ list_all (is_given_counterpart l.own l.edges) l.parents
