use Rattle.std.specs.Prelude.{◌≡◌, ◌-◌, ◌≤◌, true, false, length}
use Rattle.std.specs.List.{AllWithin}
use Rattle.dk_engine.specs.Sweeps.Ordering.{is_slot_before}
use Rattle.dk_engine.proofs.slots.places.place_of.Given as goal

-- all in front of the first place come before, and none from the other place on
abbrev pub invariant-loop-low : goal.invariant-loop-low
invariant-loop-low l =
    (l.low ≤ l.high) × (l.high ≤ length l.slots)
    × AllWithin (λ s. is_slot_before l.row l.leaders s ≡ true) l.slots 0 l.low
    × AllWithin (λ s. is_slot_before l.row l.leaders s ≡ false) l.slots l.high (length l.slots)

abbrev pub decreases-loop-low : goal.decreases-loop-low
decreases-loop-low l = l.high - l.low
