use Rattle.std.proofs.Common.{ap, ℤ}
use Rattle.std.proofs.lemmas.Int.{to_z-of_z}
use Rattle.std.proofs.lemmas.Result.{on_ok_weaker}
use Rattle.std.specs.Int.{w128}
use Rattle.json.specs.Tree.{json_tokens}
use Rattle.dk_json.specs.Texts.{number_json}
use Rattle.dk_json.proofs.Adding.{field, the_same, wrote}
use Rattle.dk_json.proofs.fields.push_number_field.Goals as goal

pub returns : goal.returns
returns c =
    let is = ap (λ (z : ℤ). json_tokens (number_json z)) (to_z-of_z w128 c.args.number c.ranges.number) in
    on_ok_weaker c.push_number.result (λ added. field (c.args.key.now, number_json c.args.number) (wrote c.in_ok-key.ensures) (the_same is added)) c.push_number.ensures
