use Rattle.std.specs.Prelude.{◌≡◌, map, take}
use Rattle.dk_base.specs.Values.{values_of}
use Rattle.dk_join.specs.Tallies.{leader_value}
use Rattle.dk_join.proofs.leaders.leader_values.Given as goal

abbrev pub invariant-loop-v : goal.invariant-loop-v
invariant-loop-v l = values_of l.sample.items ≡ map leader_value (take l.v l.classes)
