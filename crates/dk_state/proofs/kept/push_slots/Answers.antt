use Rattle.dk_state.specs.Kept.{slot_line}
use Rattle.dk_state.proofs.Pieces.{one_more}
use Rattle.dk_state.proofs.kept.push_slots.Goals as goal

pub loop-slot-preserved : goal.loop-slot-preserved
loop-slot-preserved c =
    one_more slot_line c.args.slots.now c.loop-slot.slot-index c.slot-item.result c.args.text.now c.loop-slot.text c.push_slot.new.text
    c.loop-slot-test.true c.slot-item.is c.loop-slot.invariant c.in_ok-push_slot.ensures
