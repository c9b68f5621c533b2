use Rattle.std.specs.Prelude.{◌≡◌, map, take}
use Rattle.dk_join.specs.Beside.{is_beside}
use Rattle.dk_join.specs.Numbers.{number_of}
use Rattle.dk_join.proofs.beside.companions.Given as goal

abbrev pub invariant-loop-v : goal.invariant-loop-v
invariant-loop-v l = l.list.items ≡ map (λ v. record { leader = v; numbers = record { first = number_of l.first.engine.now.kept v; second = number_of l.second.engine.now.kept v }; by_first = is_beside l.first v; by_second = is_beside l.second v }) (take l.v-index l.leaders)
