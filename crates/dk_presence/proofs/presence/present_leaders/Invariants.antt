use Rattle.std.proofs.Common.{◌≡◌, take}
use Rattle.dk_base.specs.Values.{values_of}
use Rattle.dk_presence.specs.Patterns.{present_in}
use Rattle.dk_presence.proofs.presence.present_leaders.Given as goal

abbrev pub invariant-loop-leader : goal.invariant-loop-leader
invariant-loop-leader l = l.present ≡ present_in (take l.leader-index l.leaders) (values_of l.sample)
