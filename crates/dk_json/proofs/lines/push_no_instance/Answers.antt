use Rattle.dk_json.proofs.Adding.{behind, wrote}
use Rattle.dk_json.proofs.lines.push_no_instance.Goals as goal

pub returns : goal.returns
returns c =
    behind _ _
    (behind _ _
    (behind _ _ (behind _ _ (wrote c.in_ok-key.ensures) (wrote c.in_ok-null.ensures)) (behind _ _ (wrote c.in_ok-key-2.ensures) (wrote c.in_ok-begin_array.ensures)))
    (behind _ _ (wrote c.in_ok-end_array.ensures) (wrote c.in_ok-key-3.ensures)))
    (behind _ _ (wrote c.in_ok-begin_object.ensures) (wrote c.in_ok-end_object.ensures))
