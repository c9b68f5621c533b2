use Rattle.std.proofs.Common.{◌∙◌, ap}
use Rattle.dk_engine.specs.declared.slots.slot.Slot.{Slot}
use Rattle.std.specs.Prelude.{List, flat_map}
use Rattle.dk_state.specs.Kept.{slot_line}
use Rattle.dk_state.specs.Matching.{left_behind}
use Rattle.dk_state.proofs.Passing.{some_passed}
use Rattle.dk_state.proofs.matching.pass_slots.Goals as goal

pub loop-left-preserved : goal.loop-left-preserved
loop-left-preserved c =
    let left = c.loop-left.left.now in
    let before = c.loop-left.rest in
    let after = c.pass_block.new.rest in
    ap (λ (slots : List Slot). left_behind (flat_map slot_line slots) after) c.split_at.ensures.back
    ∙ (some_passed slot_line left c.min.result before after
    (c.in_ok-pass_block.ensures ∙ ap (λ (slots : List Slot). left_behind (flat_map slot_line slots) before) c.split_at.ensures.front) ∙ c.loop-left.invariant)
