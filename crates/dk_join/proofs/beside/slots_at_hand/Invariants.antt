use Rattle.std.specs.Prelude.{◌≡◌, filter, map, take}
use Rattle.dk_join.specs.Beside.{is_at_hand}
use Rattle.dk_join.proofs.beside.slots_at_hand.Given as goal

abbrev pub invariant-loop-slot : goal.invariant-loop-slot
invariant-loop-slot l = map (λ slot. slot.now) l.list.items ≡ filter (is_at_hand l.row l.premises) (take l.slot-index l.slots)
