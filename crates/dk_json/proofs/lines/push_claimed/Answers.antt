use Rattle.std.proofs.Common.{[], ◌∷◌, codes}
use Rattle.std.proofs.lemmas.Result.{on_ok_weaker}
use Rattle.json.specs.Token as token
use Rattle.dk_json.specs.Texts.{optional_json, text_json}
use Rattle.dk_json.specs.Trees.{Field, fields_tokens}
use Rattle.dk_json.proofs.Adding.{behind, fields_behind, one_field, wrote}
use Rattle.dk_json.proofs.lines.push_claimed.Goals as goal

pub returns : goal.returns
returns c =
    let point : Field = (codes "point", text_json c.args.claimed.point.now) in
    let text : Field = (codes "text", text_json c.args.claimed.text.now) in
    let samples : Field = (codes "samples", optional_json c.args.claimed.samples) in
    on_ok_weaker c.push_optional_field.result
    (λ last. behind (token.begin_object ∷ []) (fields_tokens (point ∷ text ∷ samples ∷ [])) (wrote c.in_ok-begin_object.ensures)
    (fields_behind (point ∷ text ∷ []) (samples ∷ [])
    (fields_behind (point ∷ []) (text ∷ []) (one_field point c.in_ok-push_text_field.ensures) (one_field text c.in_ok-push_text_field-2.ensures))
    (one_field samples last)))
    c.push_optional_field.ensures
