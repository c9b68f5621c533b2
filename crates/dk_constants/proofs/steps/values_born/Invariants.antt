use Rattle.std.proofs.Common.{◌≡◌, take}
use Rattle.dk_constants.specs.Known.{born_of}
use Rattle.dk_constants.proofs.steps.values_born.Given as goal

abbrev pub invariant-loop-leader : goal.invariant-loop-leader
invariant-loop-leader l = l.born.items ≡ born_of l.known (take l.leader-index l.new)
