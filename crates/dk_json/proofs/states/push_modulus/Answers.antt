use Rattle.std.proofs.Common.{[], ◌∷◌, codes}
use Rattle.std.proofs.lemmas.Result.{on_ok_weaker}
use Rattle.dk_json.specs.Texts.{natural_json}
use Rattle.dk_json.specs.Trees.{Field}
use Rattle.dk_json.proofs.Adding.{fields_behind, one_field}
use Rattle.dk_json.proofs.states.push_modulus.Goals as goal

pub returns : goal.returns
returns c =
    let modulus : Field = (codes "modulus", natural_json c.args.modulus) in
    let remainder : Field = (codes "remainder", natural_json c.args.remainder) in
    on_ok_weaker c.push_natural_field-2.result
    (λ last. fields_behind (modulus ∷ []) (remainder ∷ []) (one_field modulus c.in_ok-push_natural_field.ensures) (one_field remainder last))
    c.push_natural_field-2.ensures
