use Rattle.std.specs.Prelude.{◌≡◌, ◌||◌, is_some, map, take}
use Rattle.std.specs.List.{list_any}
use Rattle.dk_constants.specs.Known.{known_at}
use Rattle.dk_presence.specs.Patterns.{has}
use Rattle.dk_report.proofs.viewing.shown_by.Given as goal

abbrev pub invariant-loop-pair : goal.invariant-loop-pair
invariant-loop-pair l =
    l.list ≡ map (λ pair. (pair.0, is_some (known_at l.known pair.1) || list_any (λ slot. has slot.now.leaders pair.1) l.slots)) (take l.pair-index l.led)
