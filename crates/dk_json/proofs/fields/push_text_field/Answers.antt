use Rattle.std.proofs.lemmas.Result.{on_ok_weaker}
use Rattle.dk_json.specs.Texts.{text_json}
use Rattle.dk_json.proofs.Adding.{field, wrote}
use Rattle.dk_json.proofs.fields.push_text_field.Goals as goal

pub returns : goal.returns
returns c = on_ok_weaker c.push_text.result (field (c.args.key.now, text_json c.args.bytes.now) (wrote c.in_ok-key.ensures)) c.push_text.ensures
