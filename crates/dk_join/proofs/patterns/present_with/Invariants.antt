use Rattle.std.specs.Prelude.{◌≡◌, take}
use Rattle.dk_join.specs.Joined.{present_with}
use Rattle.dk_join.proofs.patterns.present_with.Given as goal

abbrev pub invariant-loop-v : goal.invariant-loop-v
invariant-loop-v l = l.now ≡ present_with l.old (take l.v-index l.leaders) l.present
