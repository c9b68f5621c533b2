use Rattle.dk_json.specs.States.{state_fields}
use Rattle.dk_json.proofs.Adding.{around_fields, wrote}
use Rattle.dk_json.proofs.states.push_state.Goals as goal

pub returns : goal.returns
returns c =
    around_fields (state_fields c.args.state.now) (wrote c.in_ok-begin_object.ensures) c.in_ok-push_parameters.ensures (wrote c.in_ok-end_object.ensures)
