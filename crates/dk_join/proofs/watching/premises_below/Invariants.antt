use Rattle.std.specs.Prelude.{◌≡◌, take}
use Rattle.dk_join.specs.Watched.{premises_below}
use Rattle.dk_join.proofs.watching.premises_below.Given as goal

abbrev pub invariant-loop-premise : goal.invariant-loop-premise
invariant-loop-premise l = l.list.items ≡ premises_below (take l.premise-index l.premises)
