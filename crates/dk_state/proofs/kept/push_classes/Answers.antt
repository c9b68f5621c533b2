use Rattle.std.proofs.Common.{◌∙◌, ◌++◌, ap}
use Rattle.dk_state.specs.Kept.{class_line}
use Rattle.dk_state.proofs.Pieces.{one_more}
use Rattle.dk_state.proofs.kept.push_classes.Goals as goal

pub loop-members-preserved : goal.loop-members-preserved
loop-members-preserved c =
    one_more class_line c.args.classes.now c.loop-members.members-index c.members-item.result c.args.text.now c.loop-members.text c.push_class.new.text
    c.loop-members-test.true c.members-item.is c.loop-members.invariant (c.in_ok-push_class.ensures ∙ ap (λ ms. c.loop-members.text ++ class_line ms) c.as_slice.ensures)
