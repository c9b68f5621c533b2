use Rattle.std.specs.Prelude.{◌≡◌, filter, map, take}
use Rattle.dk_report.specs.Narrowing.{is_of_row}
use Rattle.dk_report.proofs.narrowing.slots_of_row.Given as goal

abbrev pub invariant-loop-slot : goal.invariant-loop-slot
invariant-loop-slot l = map (λ slot. slot.now) l.list.items ≡ filter (is_of_row l.row) (take l.slot-index l.slots)
