use Rattle.std.proofs.Common.{◌≡◌, length}
use Rattle.std.specs.List.{flat_map}
use Rattle.dk_state.specs.Kept.{slot_line}
use Rattle.dk_state.specs.Matching.{left_behind}
use Rattle.dk_state.proofs.matching.pass_slots.Given as goal

abbrev pub invariant-loop-left : goal.invariant-loop-left
invariant-loop-left l = left_behind (flat_map slot_line l.left) l.rest ≡ left_behind (flat_map slot_line l.slots) l.fn.rest

abbrev pub decreases-loop-left : goal.decreases-loop-left
decreases-loop-left l = length l.left
