use Rattle.std.specs.Prelude.{◌≡◌, ◌++◌, flat_map, take}
use Rattle.dk_report.specs.Asked.{listed_candidates_by}
use Rattle.dk_report.proofs.asking.Asking.over_slots.Given as goal

abbrev pub invariant-loop-slot : goal.invariant-loop-slot
invariant-loop-slot l =
    l.list ≡ l.initial.list ++ flat_map (λ slot. listed_candidates_by l.self l.row slot.now.leaders) (take l.slot-index l.slots)
