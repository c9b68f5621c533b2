use Rattle.std.proofs.lemmas.Result.{on_ok_weaker}
use Rattle.dk_json.specs.Texts.{optional_json}
use Rattle.dk_json.proofs.Adding.{field, wrote}
use Rattle.dk_json.proofs.fields.push_optional_field.Goals as goal

pub returns : goal.returns
returns c = on_ok_weaker c.push_optional.result (field (c.args.key.now, optional_json c.args.number) (wrote c.in_ok-key.ensures)) c.push_optional.ensures
