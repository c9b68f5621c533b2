use Rattle.std.proofs.lemmas.Result.{on_ok_weaker}
use Rattle.dk_json.specs.Texts.{natural_json}
use Rattle.dk_json.proofs.Adding.{field, wrote}
use Rattle.dk_json.proofs.fields.push_natural_field.Goals as goal

pub returns : goal.returns
returns c = on_ok_weaker c.push_natural.result (field (c.args.key.now, natural_json c.args.number) (wrote c.in_ok-key.ensures)) c.push_natural.ensures
