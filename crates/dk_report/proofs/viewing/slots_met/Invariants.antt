use Rattle.std.specs.Prelude.{◌≡◌, filter, map, take}
use Rattle.dk_report.specs.Viewing.{is_met}
use Rattle.dk_report.proofs.viewing.slots_met.Given as goal

abbrev pub invariant-loop-slot : goal.invariant-loop-slot
invariant-loop-slot l = map (λ slot. slot.now) l.list.items ≡ filter (is_met l.led l.row) (take l.slot-index l.slots)
