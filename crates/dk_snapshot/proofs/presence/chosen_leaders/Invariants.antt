use Rattle.std.proofs.Common.{◌≡◌, take}
use Rattle.dk_snapshot.specs.Restored.{chosen_leaders}
use Rattle.dk_snapshot.proofs.presence.chosen_leaders.Given as goal

abbrev pub invariant-loop-i : goal.invariant-loop-i
invariant-loop-i l = l.present ≡ chosen_leaders (take l.i l.leaders) l.truths
