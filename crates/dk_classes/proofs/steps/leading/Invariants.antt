use Rattle.std.proofs.Common.{◌≡◌, take}
use Rattle.dk_classes.specs.Leaders.{own_leaders}
use Rattle.dk_classes.proofs.steps.leading.Given as goal

abbrev pub invariant-loop-place : goal.invariant-loop-place
invariant-loop-place l = l.own.items ≡ own_leaders (take l.place l.leaders)
