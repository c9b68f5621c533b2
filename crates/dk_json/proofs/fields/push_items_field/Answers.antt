use Rattle.std.proofs.Common.{map}
use Rattle.std.proofs.lemmas.Result.{on_ok_weaker}
use Rattle.json.specs.Json.{array}
use Rattle.dk_json.specs.Trees.{items_of}
use Rattle.dk_json.proofs.Adding.{field, wrote}
use Rattle.dk_json.proofs.fields.push_items_field.Goals as goal

pub returns : goal.returns
returns g c =
    on_ok_weaker c.push_items.result (field (c.args.key.now, array (items_of (map g.T.Told.json_of c.args.items.now))) (wrote c.in_ok-key.ensures))
    c.push_items.ensures
