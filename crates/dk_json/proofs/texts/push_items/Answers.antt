use Rattle.dk_json.proofs.Adding.{around_items, wrote}
use Rattle.dk_json.proofs.texts.push_items.Goals as goal

pub returns : goal.returns
returns g c =
    around_items g.T.Told.json_of c.args.items.now (wrote c.in_ok-begin_array.ensures) c.in_ok-push_each.ensures (wrote c.in_ok-end_array.ensures)
