use Rattle.std.specs.Prelude.{◌≡◌, take}
use Rattle.dk_join.specs.Joined.{joined_known}
use Rattle.dk_join.proofs.constants.joined_known.Given as goal

abbrev pub invariant-loop-v : goal.invariant-loop-v
invariant-loop-v l = l.known ≡ joined_known l.first.kept l.second.kept (take l.v-index l.leaders)
