use Rattle.std.specs.Prelude.{◌≡◌, filter, take}
use Rattle.dk_presence.specs.Patterns.{has}
use Rattle.dk_join.proofs.beside.slots_with.Given as goal

abbrev pub invariant-loop-slot : goal.invariant-loop-slot
invariant-loop-slot l = l.list.items ≡ filter (λ slot. has slot.now.leaders l.leader) (take l.slot-index l.slots)
